use Rattle.hip_sound.specs.Rules.{instr_register_uses}
use Rattle.hip_typing.proofs.UseLists.{parts_left}
use Rattle.hip_typing.proofs.UseLists.{Carries}
use Rattle.hip_typing.proofs.assigned.functions.verify_instrs.Given as goal

abbrev pub invariant-each : goal.invariant-each
invariant-each l = Carries l.body.function.now (parts_left (instr_register_uses l.function l.block) l.items l.index) (parts_left (instr_register_uses l.function l.block) l.instrs 0)
