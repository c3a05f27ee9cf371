use Rattle.std.proofs.Common.{◌∙◌}
use Rattle.hip_lines.proofs.Listed.{fence_more}
use Rattle.hip_lines.proofs.kept.fence_in.Goals as goal

pub loop-line-preserved : goal.loop-line-preserved
loop-line-preserved c =
    (fence_more c.args.flushed.now c.loop-line.line-index c.args.queues.now c.loop-line.queues c.fence.new.self c.loop-line-test.true c.loop-line.invariant.0 c.fence.ensures, λ n h. c.fence.ensures.below n (c.loop-line.invariant.1 n h), c.fence.ensures.count ∙ c.loop-line.invariant.2)
