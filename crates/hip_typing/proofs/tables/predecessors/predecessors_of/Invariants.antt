use Rattle.std.proofs.Common.{take}
use Rattle.hip_typing.specs.Seen.Arrivals.{FindsPredecessors}
use Rattle.hip_typing.proofs.tables.predecessors.predecessors_of.Given as goal

abbrev pub invariant-each : goal.invariant-each
invariant-each l = FindsPredecessors l.found.sets (take l.block-index l.blocks)
