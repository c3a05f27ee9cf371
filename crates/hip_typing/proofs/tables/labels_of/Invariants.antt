use Rattle.std.proofs.Common.{take, map}
use Rattle.hip_names.specs.Names.{Knows}
use Rattle.hip_typing.proofs.tables.labels_of.Given as goal

abbrev pub invariant-each : goal.invariant-each
invariant-each l = Knows l.labels (map (λ b. b.label) (take l.block-index l.blocks))
