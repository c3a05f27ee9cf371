use Rattle.std.proofs.Common.{◌≡◌, true}
use Rattle.hip_text_tests.proofs.trace_entries.assert_reads.Given as goal

abbrev pub invariant-loop-entry : goal.invariant-loop-entry
invariant-loop-entry g l = (g.C.Cabinet.state l.cabinet).is_current ≡ true
