use Rattle.std.proofs.Common.{◌≡◌, ◌++◌, drop}
use Rattle.hip_vol.specs.Rules as spec
use Rattle.hip_vol.proofs.rule_walk.add_functions.Given as goal

abbrev pub invariant-each : goal.invariant-each
invariant-each l = l.rules ++ spec.rules_from l.scope.program.now l.number (drop l.number l.functions) ≡ l.initial.rules ++ spec.rules_from l.scope.program.now 0 l.functions
