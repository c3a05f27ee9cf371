use Rattle.std.proofs.Common.{take}
use Rattle.hip_typing.specs.Seen.Carried.{EdgesCarry}
use Rattle.hip_typing.proofs.places.edges.operands_by_label.Given as goal

abbrev pub invariant-each : goal.invariant-each
invariant-each l = EdgesCarry l.table.names l.table.values (take l.edge-index l.edges)
