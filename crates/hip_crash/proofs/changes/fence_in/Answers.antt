use Rattle.hip_crash.proofs.Walks.{fence-all}
use Rattle.hip_crash.proofs.changes.fence_in.Goals as goal

pub returns : goal.returns
returns c = fence-all c.args.flushed.now c.loop-line.line-index c.args.lines.now c.loop-line.lines c.loop-line-test.false c.requires c.loop-line.invariant
