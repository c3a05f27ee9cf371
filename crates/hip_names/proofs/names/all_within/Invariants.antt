use Rattle.std.proofs.Common.{◌≡◌, drop, map}
use Rattle.std.specs.List.{list_all}
use Rattle.hip_names.specs.Names.{is_among}
use Rattle.hip_names.proofs.names.all_within.Given as goal

abbrev pub invariant-each : goal.invariant-each
invariant-each l = list_all (is_among l.others) (map (λ n. n.now) (drop l.name-index l.names)) ≡ list_all (is_among l.others) (map (λ n. n.now) l.names)
