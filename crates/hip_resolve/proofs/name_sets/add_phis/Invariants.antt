use Rattle.std.proofs.Common.{◌≡◌, map, drop}
use Rattle.std.specs.Str.{bytes_eq}
use Rattle.hip_types.specs.Distinct.{met}
use Rattle.hip_resolve.proofs.name_sets.add_phis.Given as goal

abbrev pub invariant-each : goal.invariant-each
invariant-each l = met bytes_eq l.names (map (λ x. x.dest) (drop l.phi-index l.phis)) ≡ met bytes_eq l.initial.names (map (λ x. x.dest) l.phis)
