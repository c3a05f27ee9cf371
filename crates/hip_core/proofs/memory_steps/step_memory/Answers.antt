use Rattle.std.proofs.Common.{refl, sym, subst, arith}
use Rattle.hip_code.specs.declared.op.Memory.{Memory}
use Rattle.hip_code.specs.declared.op.Op.TheVariants as ops
use Rattle.hip_core.specs.Acts.{CarriesOutOp}
use Rattle.hip_core.proofs.Fetch.{carries_cut, carries_turn, on_input}
use Rattle.hip_core.proofs.memory_steps.step_memory.Goals as goal

pub returns-then-core-clause-ok : goal.returns-then-core-clause-ok
returns-then-core-clause-ok c = subst (λ (x : Memory). CarriesOutOp c.args.input.now c.args.code.now c.args.core.now c.cut.new.core c.cut.result (ops.Memory x)) (sym c.in-Load.is) (carries_cut refl (omega arith) c.cut.ensures.event c.cut.ensures.core)

pub returns-then-core-2-clause-ok : goal.returns-then-core-2-clause-ok
returns-then-core-2-clause-ok c =
    subst (λ (x : Memory). CarriesOutOp c.args.input.now c.args.code.now c.args.core.now c.cut-then-core-2.new.core c.cut-then-core-2.result (ops.Memory x)) (sym c.in-Store.is)
    (carries_cut refl (omega arith) c.cut-then-core-2.ensures.event c.cut-then-core-2.ensures.core)

pub returns-else-core-clause-ok : goal.returns-else-core-clause-ok
returns-else-core-clause-ok c = subst (λ (x : Memory). CarriesOutOp c.args.input.now c.args.code.now c.args.core.now c.load.new.core c.load.result (ops.Memory x)) (sym c.in-Load.is) (carries_turn refl (omega arith) (on_input c.load.ensures.acts))

pub returns-in_ok-event-in-Store-clause-ok : goal.returns-in_ok-event-in-Store-clause-ok
returns-in_ok-event-in-Store-clause-ok c =
    subst (λ (x : Memory). CarriesOutOp c.args.input.now c.args.code.now c.args.core.now c.store.new.core c.in_ok-event-in-Store.event (ops.Memory x)) (sym c.in-Store.is) (carries_turn refl (omega arith) (on_input c.in_ok-event-in-Store.ensures.ok))

pub returns-in_ok-event-in-Effect-clause-ok : goal.returns-in_ok-event-in-Effect-clause-ok
returns-in_ok-event-in-Effect-clause-ok c = subst (λ (x : Memory). CarriesOutOp c.args.input.now c.args.code.now c.args.core.now c.step_effect.new.core c.in_ok-event-in-Effect.event (ops.Memory x)) (sym c.in-Effect.is) c.in_ok-event-in-Effect.ensures.ok
