use Rattle.std.proofs.Common.{◌≡◌, ◌+◌}
use Rattle.hip_code.specs.Entries.{entry_in}
use Rattle.hip_resolve.proofs.scopes.place_after_all.Given as goal

abbrev pub invariant-each : goal.invariant-each
invariant-each l = l.next ≡ l.start + entry_in l.blocks l.index
