use Rattle.std.proofs.Common.{◌≡◌, nat_eq, drop}
use Rattle.std.specs.List.{flat_map}
use Rattle.hip_types.specs.Distinct.{met}
use Rattle.hip_calls.specs.Reach.{called_by}
use Rattle.hip_calls.proofs.reach.add_called_in_blocks.Given as goal

abbrev pub invariant-each : goal.invariant-each
invariant-each l =
    met nat_eq l.seen.keys (flat_map (λ b. flat_map (called_by l.functions) b.body) (drop l.block-index l.blocks))
    ≡ met nat_eq l.initial.seen.keys (flat_map (λ b. flat_map (called_by l.functions) b.body) l.blocks)
