use Rattle.std.proofs.Common.{refl, sym, subst, arith}
use Rattle.hip_code.specs.declared.op.Effect.{Effect}
use Rattle.hip_code.specs.declared.op.Memory.TheVariants as memories
use Rattle.hip_code.specs.declared.op.Op.TheVariants as ops
use Rattle.hip_core.specs.Acts.{CarriesOutOp}
use Rattle.hip_core.proofs.Fetch.{carries_cut, carries_still, carries_turn, on_input}
use Rattle.hip_core.proofs.memory_steps.step_effect.Goals as goal

pub returns-then-core-clause-ok : goal.returns-then-core-clause-ok
returns-then-core-clause-ok c =
    subst (λ (x : Effect). CarriesOutOp c.args.input.now c.args.code.now c.args.core.now c.cut.new.core c.cut.result (ops.Memory (memories.Effect x))) (sym c.in-Alloca.is) (carries_cut refl (omega arith) c.cut.ensures.event c.cut.ensures.core)

pub returns-then-core-2-clause-ok : goal.returns-then-core-2-clause-ok
returns-then-core-2-clause-ok c =
    subst (λ (x : Effect). CarriesOutOp c.args.input.now c.args.code.now c.args.core.now c.cut-then-core-2.new.core c.cut-then-core-2.result (ops.Memory (memories.Effect x))) (sym c.in-Outside.is)
    (carries_cut refl (omega arith) c.cut-then-core-2.ensures.event c.cut-then-core-2.ensures.core)

pub returns-in_ok-event-in-Alloca-clause-ok : goal.returns-in_ok-event-in-Alloca-clause-ok
returns-in_ok-event-in-Alloca-clause-ok c =
    subst (λ (x : Effect). CarriesOutOp c.args.input.now c.args.code.now c.args.core.now c.alloca.new.core c.in_ok-event-in-Alloca.event (ops.Memory (memories.Effect x))) (sym c.in-Alloca.is)
    (carries_turn refl (omega arith) (on_input (c.in_ok-event-in-Alloca.ensures.ok c.args.code.now)))

pub returns-in-Persistence-clause-ok : goal.returns-in-Persistence-clause-ok
returns-in-Persistence-clause-ok c =
    subst (λ (x : Effect). CarriesOutOp c.args.input.now c.args.code.now c.args.core.now c.persistence.new.core c.persistence.result (ops.Memory (memories.Effect x))) (sym c.in-Persistence.is) (carries_still refl c.persistence.ensures.acts)

pub returns-else-core-2-clause-ok : goal.returns-else-core-2-clause-ok
returns-else-core-2-clause-ok c =
    subst (λ (x : Effect). CarriesOutOp c.args.input.now c.args.code.now c.args.core.now c.outside.new.core c.outside.result (ops.Memory (memories.Effect x))) (sym c.in-Outside.is) (carries_turn refl (omega arith) c.outside.ensures.acts)
