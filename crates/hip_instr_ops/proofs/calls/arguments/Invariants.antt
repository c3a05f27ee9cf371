use Rattle.std.proofs.Common.{take}
use Rattle.hip_scope.specs.Grown.{grown}
use Rattle.hip_instr_ops.specs.Passed.{PassesArguments}
use Rattle.hip_instr_ops.proofs.calls.arguments.Given as goal

abbrev pub invariant-passing : goal.invariant-passing
invariant-passing l = PassesArguments l.scope (grown l.initial.tables) (grown l.tables) (take l.number l.args)
