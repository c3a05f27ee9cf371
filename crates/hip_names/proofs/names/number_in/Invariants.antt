use Rattle.std.proofs.Common.{◌≡◌, ◌+◌, drop, map, option_map}
use Rattle.hip_names.specs.Names.{number_of}
use Rattle.hip_names.proofs.names.number_in.Given as goal

abbrev pub invariant-each : goal.invariant-each
invariant-each l =
    option_map (λ k. l.number + k) (number_of (map (λ n. n.now) (drop l.number l.names)) l.name)
    ≡ number_of (map (λ n. n.now) l.names) l.name
