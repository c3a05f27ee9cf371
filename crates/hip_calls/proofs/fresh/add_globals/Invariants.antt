use Rattle.std.proofs.Common.{◌≡◌, map, drop}
use Rattle.std.specs.Str.{bytes_eq}
use Rattle.hip_types.specs.Distinct.{met}
use Rattle.hip_calls.proofs.fresh.add_globals.Given as goal

abbrev pub invariant-each : goal.invariant-each
invariant-each l = met bytes_eq l.names (map (λ g. g.name) (drop l.global-index l.globals)) ≡ met bytes_eq l.initial.names (map (λ g. g.name) l.globals)
