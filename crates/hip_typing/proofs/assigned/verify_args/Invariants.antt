use Rattle.std.proofs.Common.{drop, map}
use Rattle.hip_sound.specs.Registers.{arg_uses, used_registers}
use Rattle.hip_sound.specs.Rules.{use_at}
use Rattle.hip_typing.proofs.UseLists.{Carries}
use Rattle.hip_typing.proofs.assigned.verify_args.Given as goal

abbrev pub invariant-each : goal.invariant-each
invariant-each l =
    Carries l.body.function.now (map (use_at l.place l.block l.point) (used_registers (arg_uses (drop l.index l.args)))) (map (use_at l.place l.block l.point) (used_registers (arg_uses l.args)))
