use Rattle.std.proofs.Common.{◌≡◌, map, drop}
use Rattle.hip_names.specs.Names.{is_among}
use Rattle.hip_fix.proofs.externs.declares.Given as goal

abbrev pub invariant-each : goal.invariant-each
invariant-each l = is_among (map (λ e. e.name) (drop l.external-index l.externs)) l.name ≡ is_among (map (λ e. e.name) l.externs) l.name
