use Rattle.std.proofs.Common.{◌≡◌, ◌++◌, drop}
use Rattle.std.specs.List.{flat_map}
use Rattle.hip_vol.specs.Rules as spec
use Rattle.hip_vol.proofs.rule_walk.add_phis.Given as goal

abbrev pub invariant-each : goal.invariant-each
invariant-each l = l.rules ++ flat_map (spec.phi_rules l.scope.program.now l.function) (drop l.phi-index l.phis) ≡ l.initial.rules ++ flat_map (spec.phi_rules l.scope.program.now l.function) l.phis
