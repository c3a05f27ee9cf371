use Rattle.std.proofs.Common.{refl, sym, subst, arith}
use Rattle.hip_code.specs.declared.op.Op.{Op}
use Rattle.hip_core.specs.Acts.{CarriesOutOp}
use Rattle.hip_core.proofs.Fetch.{carries_cut, carries_turn, on_input}
use Rattle.hip_core.proofs.act.act.Goals as goal

pub returns-then-core-clause-ok : goal.returns-then-core-clause-ok
returns-then-core-clause-ok c = subst (λ (o : Op). CarriesOutOp c.args.input.now c.args.code.now c.args.core.now c.cut.new.core c.cut.result o) (sym c.in-Value.is) (carries_cut refl (omega arith) c.cut.ensures.event c.cut.ensures.core)

pub returns-then-core-2-clause-ok : goal.returns-then-core-2-clause-ok
returns-then-core-2-clause-ok c = subst (λ (o : Op). CarriesOutOp c.args.input.now c.args.code.now c.args.core.now c.cut-then-core-2.new.core c.cut-then-core-2.result o) (sym c.in-Control.is) (carries_cut refl (omega arith) c.cut-then-core-2.ensures.event c.cut-then-core-2.ensures.core)

pub returns-else-core-clause-ok : goal.returns-else-core-clause-ok
returns-else-core-clause-ok c = subst (λ (o : Op). CarriesOutOp c.args.input.now c.args.code.now c.args.core.now c.step_value.new.core c.step_value.result o) (sym c.in-Value.is) (carries_turn refl (omega arith) (on_input c.step_value.ensures.acts))

pub returns-in_ok-event-in-Control-clause-ok : goal.returns-in_ok-event-in-Control-clause-ok
returns-in_ok-event-in-Control-clause-ok c = subst (λ (o : Op). CarriesOutOp c.args.input.now c.args.code.now c.args.core.now c.step_control.new.core c.in_ok-event-in-Control.event o) (sym c.in-Control.is) (carries_turn refl (omega arith) (on_input c.in_ok-event-in-Control.ensures.ok))
