use Rattle.hip_sound.specs.Rules.{block_register_uses, register_uses}
use Rattle.hip_typing.proofs.UseLists.{parts_left}
use Rattle.hip_typing.proofs.UseLists.{Carries}
use Rattle.hip_typing.proofs.assigned.functions.verify_blocks.Given as goal

abbrev pub invariant-each : goal.invariant-each
invariant-each l = Carries l.body.function.now (parts_left (block_register_uses l.body.function.now.blocks l.function) l.blocks l.number) (register_uses l.function l.body.function.now)
