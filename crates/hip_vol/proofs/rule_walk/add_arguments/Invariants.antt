use Rattle.std.proofs.Common.{◌≡◌, ◌++◌, drop}
use Rattle.hip_vol.specs.Rules as spec
use Rattle.hip_vol.proofs.rule_walk.add_arguments.Given as goal

abbrev pub invariant-each : goal.invariant-each
invariant-each l = l.rules ++ spec.argument_rules l.scope.program.now l.function l.callee (drop l.place l.params) (drop l.place l.args) ≡ l.initial.rules ++ spec.argument_rules l.scope.program.now l.function l.callee l.params l.args
