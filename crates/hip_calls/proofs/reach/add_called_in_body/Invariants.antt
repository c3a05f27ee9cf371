use Rattle.std.proofs.Common.{◌≡◌, nat_eq, drop}
use Rattle.std.specs.List.{flat_map}
use Rattle.hip_types.specs.Distinct.{met}
use Rattle.hip_calls.specs.Reach.{called_by}
use Rattle.hip_calls.proofs.reach.add_called_in_body.Given as goal

abbrev pub invariant-instrs : goal.invariant-instrs
invariant-instrs l =
    met nat_eq l.seen.keys (flat_map (called_by l.functions) (drop l.instr-index l.body)) ≡ met nat_eq l.initial.seen.keys (flat_map (called_by l.functions) l.body)
