use Rattle.std.proofs.Common.{◌≡◌, drop}
use Rattle.hip_sound.specs.Registers.{arg_uses}
use Rattle.hip_typing.specs.Seen.UsesSeen.{operands_known}
use Rattle.hip_typing.proofs.places.operands.args_known.Given as goal

abbrev pub invariant-each : goal.invariant-each
invariant-each l =
    operands_known l.registers.names l.registers.values l.globals (arg_uses (drop l.arg-index l.args)) ≡ operands_known l.registers.names l.registers.values l.globals (arg_uses l.args)
