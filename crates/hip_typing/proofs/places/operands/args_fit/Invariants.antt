use Rattle.std.proofs.Common.{◌≡◌, drop}
use Rattle.hip_sound.specs.Registers.{arg_uses}
use Rattle.hip_typing.specs.Seen.UsesSeen.{operands_fit}
use Rattle.hip_typing.proofs.places.operands.args_fit.Given as goal

abbrev pub invariant-each : goal.invariant-each
invariant-each l = operands_fit (arg_uses (drop l.arg-index l.args)) ≡ operands_fit (arg_uses l.args)
