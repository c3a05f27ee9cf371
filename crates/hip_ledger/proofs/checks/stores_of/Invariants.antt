use Rattle.std.proofs.Common.{◌≡◌, ◌++◌}
use Rattle.hip_ledger.specs.CheckGroups.{stores_stated}
use Rattle.hip_ledger.proofs.checks.stores_of.Given as goal

abbrev pub invariant-each : goal.invariant-each
invariant-each l = l.stores ++ stores_stated l.check.births.now l.check.fence l.pending.stores.items l.tag-iterator ≡ stores_stated l.check.births.now l.check.fence l.pending.stores.items l.groups.entries
