use Rattle.std.proofs.Common.{sym, subst}
use Rattle.hip_code.specs.declared.op.Control.TheVariants as controls
use Rattle.hip_code.specs.declared.op.Exit.{Exit}
use Rattle.hip_code.specs.declared.op.Op.TheVariants as ops
use Rattle.hip_core.specs.Acts.{Acts}
use Rattle.hip_core.proofs.Arms.{acts_exit_value, acts_exit_nothing, acts_unreachable}
use Rattle.hip_core.proofs.calls.exit.Goals as goal

pub returns-in-Value-clause-acts : goal.returns-in-Value-clause-acts
returns-in-Value-clause-acts c = subst (λ (x : Exit). Acts c.args.code.now c.args.core.now c.finish.new.core c.finish.result (ops.Control (controls.Exit x))) (sym c.in-Value.is)
    (acts_exit_value c.read_here-value.result c.read_here-value.ensures c.finish.ensures.does)

pub returns-in-Nothing-clause-acts : goal.returns-in-Nothing-clause-acts
returns-in-Nothing-clause-acts c = subst (λ (x : Exit). Acts c.args.code.now c.args.core.now c.finish-in-Nothing.new.core c.finish-in-Nothing.result (ops.Control (controls.Exit x))) (sym c.in-Nothing.is)
    (acts_exit_nothing c.finish-in-Nothing.ensures.does)

pub returns-in-Unreachable-clause-acts : goal.returns-in-Unreachable-clause-acts
returns-in-Unreachable-clause-acts c = subst (λ (x : Exit). Acts c.args.code.now c.args.core.now c.trap.new.core c.trap.result (ops.Control (controls.Exit x))) (sym c.in-Unreachable.is)
    (acts_unreachable c.trap.ensures.does)
