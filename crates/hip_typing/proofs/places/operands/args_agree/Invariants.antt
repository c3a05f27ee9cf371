use Rattle.std.proofs.Common.{◌≡◌, drop}
use Rattle.hip_sound.specs.Registers.{arg_uses}
use Rattle.hip_typing.specs.Seen.UsesSeen.{operands_agree}
use Rattle.hip_typing.proofs.places.operands.args_agree.Given as goal

abbrev pub invariant-each : goal.invariant-each
invariant-each l =
    operands_agree l.registers.names l.registers.values (arg_uses (drop l.arg-index l.args)) ≡ operands_agree l.registers.names l.registers.values (arg_uses l.args)
