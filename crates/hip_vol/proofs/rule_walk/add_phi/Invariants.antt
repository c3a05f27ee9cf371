use Rattle.std.proofs.Common.{◌≡◌, ◌++◌, drop, map}
use Rattle.hip_vol.specs.Rules as spec
use Rattle.hip_vol.proofs.rule_walk.add_phi.Given as goal

abbrev pub invariant-each : goal.invariant-each
invariant-each l = l.rules ++ map (λ e. spec.rule l.scope.program.now l.function l.phi.dest (spec.operand_bound l.scope.program.now l.function e.value)) (drop l.edge-index l.edges) ≡ l.initial.rules ++ map (λ e. spec.rule l.scope.program.now l.function l.phi.dest (spec.operand_bound l.scope.program.now l.function e.value)) l.edges
