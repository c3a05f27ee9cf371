use Rattle.std.proofs.Common.{sym, subst}
use Rattle.hip_code.specs.declared.op.Effect.TheVariants as effects
use Rattle.hip_code.specs.declared.op.Memory.TheVariants as memories
use Rattle.hip_code.specs.declared.op.Op.TheVariants as ops
use Rattle.hip_code.specs.declared.op.Persistence.{Persistence}
use Rattle.hip_core.specs.Acts.{Acts}
use Rattle.hip_core.proofs.OtherArms.{acts_fence, acts_flush, acts_range}
use Rattle.hip_core.proofs.persistence.persistence.Goals as goal

pub returns-in-Flush-clause-acts : goal.returns-in-Flush-clause-acts
returns-in-Flush-clause-acts c =
    subst (λ (x : Persistence). Acts c.args.code.now c.args.core.now c.flush.new.core c.flush.result (ops.Memory (memories.Effect (effects.Persistence x)))) (sym c.in-Flush.is)
    (acts_flush c.read_here-address.result c.read_here-address.ensures c.flush.ensures.does)

pub returns-in-Fence-clause-acts : goal.returns-in-Fence-clause-acts
returns-in-Fence-clause-acts c =
    subst (λ (x : Persistence). Acts c.args.code.now c.args.core.now c.fence.new.core c.fence.result (ops.Memory (memories.Effect (effects.Persistence x)))) (sym c.in-Fence.is) (acts_fence c.fence.ensures.does)

pub returns-in-Range-clause-acts : goal.returns-in-Range-clause-acts
returns-in-Range-clause-acts c =
    subst (λ (x : Persistence). Acts c.args.code.now c.args.core.now c.range.new.core c.range.result (ops.Memory (memories.Effect (effects.Persistence x)))) (sym c.in-Range.is)
    (acts_range c.read_here-address-in-Range.result c.read_here-count.result c.read_here-address-in-Range.ensures c.read_here-count.ensures c.range.ensures.does)
