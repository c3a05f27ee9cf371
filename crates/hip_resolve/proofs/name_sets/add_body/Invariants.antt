use Rattle.std.proofs.Common.{◌≡◌, drop}
use Rattle.std.specs.List.{flat_map}
use Rattle.std.specs.Str.{bytes_eq}
use Rattle.hip_types.specs.Distinct.{met}
use Rattle.hip_sound.specs.Paths.{names_of}
use Rattle.hip_sound.specs.Registers.{assigned_by}
use Rattle.hip_resolve.proofs.name_sets.add_body.Given as goal

abbrev pub invariant-each : goal.invariant-each
invariant-each l =
    met bytes_eq l.names (flat_map (λ x. names_of (assigned_by x)) (drop l.instr-index l.body)) ≡ met bytes_eq l.initial.names (flat_map (λ x. names_of (assigned_by x)) l.body)
