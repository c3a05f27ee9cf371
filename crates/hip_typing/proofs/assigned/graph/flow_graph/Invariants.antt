use Rattle.std.proofs.Common.{◌≡◌, map, take}
use Rattle.hip_typing.specs.Seen.Inner.{label_numbers}
use Rattle.hip_sound.specs.Registers.{end_labels}
use Rattle.hip_typing.proofs.assigned.graph.flow_graph.Given as goal

abbrev pub invariant-each_block : goal.invariant-each_block
invariant-each_block l = l.graph ≡ map (λ block. label_numbers l.names.names l.names.values (end_labels block.end)) (take l.block-index l.blocks)
