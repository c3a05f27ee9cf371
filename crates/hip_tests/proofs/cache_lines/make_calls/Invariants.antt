use Rattle.std.proofs.Common.{◌≡◌, length}
use Rattle.hip_tests.proofs.cache_lines.make_calls.Given as goal

abbrev pub invariant-calls : goal.invariant-calls
invariant-calls g l = length l.lines.lines ≡ l.count
