use Rattle.std.proofs.Common.{sym, subst}
use Rattle.hip_code.specs.declared.op.Effect.TheVariants as effects
use Rattle.hip_code.specs.declared.op.Memory.TheVariants as memories
use Rattle.hip_code.specs.declared.op.Op.TheVariants as ops
use Rattle.hip_code.specs.declared.op.Outside.{Outside}
use Rattle.hip_core.specs.Acts.{ActsOn}
use Rattle.hip_core.proofs.OtherArms.{acts_assert, acts_print}
use Rattle.hip_core.proofs.memory_steps.outside.Goals as goal

pub returns-in-Assert-clause-acts : goal.returns-in-Assert-clause-acts
returns-in-Assert-clause-acts c =
    subst (λ (x : Outside). ActsOn c.args.input.now c.args.code.now c.args.core.now c.assert_range.new.core c.assert_range.result (ops.Memory (memories.Effect (effects.Outside x)))) (sym c.in-Assert.is)
    (acts_assert c.read_here-address.result c.read_here-count.result c.read_here-address.ensures c.read_here-count.ensures c.assert_range.ensures.does)

pub returns-in-Print-clause-acts : goal.returns-in-Print-clause-acts
returns-in-Print-clause-acts c =
    subst (λ (x : Outside). ActsOn c.args.input.now c.args.code.now c.args.core.now c.print.new.core c.print.result (ops.Memory (memories.Effect (effects.Outside x)))) (sym c.in-Print.is)
    (acts_print c.read_here-number.result c.read_here-number.ensures c.print.ensures.does)

pub returns-in-Read-clause-acts : goal.returns-in-Read-clause-acts
returns-in-Read-clause-acts c =
    subst (λ (x : Outside). ActsOn c.args.input.now c.args.code.now c.args.core.now c.read_number.new.core c.read_number.result (ops.Memory (memories.Effect (effects.Outside x)))) (sym c.in-Read.is)
    (c.read_number.ensures.acts c.args.code.now)
