use Rattle.std.proofs.Common.{◌≡◌, drop}
use Rattle.std.specs.List.{flat_map}
use Rattle.std.specs.Str.{bytes_eq}
use Rattle.hip_types.specs.Distinct.{met}
use Rattle.hip_sound.specs.Paths.{names_of}
use Rattle.hip_sound.specs.Registers.{block_registers}
use Rattle.hip_resolve.proofs.name_sets.add_blocks.Given as goal

abbrev pub invariant-each : goal.invariant-each
invariant-each l =
    met bytes_eq l.names (flat_map (λ x. names_of (block_registers x)) (drop l.block-index l.blocks)) ≡ met bytes_eq l.initial.names (flat_map (λ x. names_of (block_registers x)) l.blocks)
