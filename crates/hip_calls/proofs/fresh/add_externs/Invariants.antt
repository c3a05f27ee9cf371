use Rattle.std.proofs.Common.{◌≡◌, map, drop}
use Rattle.std.specs.Str.{bytes_eq}
use Rattle.hip_types.specs.Distinct.{met}
use Rattle.hip_calls.proofs.fresh.add_externs.Given as goal

abbrev pub invariant-each : goal.invariant-each
invariant-each l = met bytes_eq l.names (map (λ e. e.name) (drop l.external-index l.externs)) ≡ met bytes_eq l.initial.names (map (λ e. e.name) l.externs)
