use Rattle.hip_end_ops.proofs.EndOps.{ends_br}
use Rattle.hip_end_ops.proofs.ends.branch.Goals as goal

pub returns : goal.returns
returns c = ends_br _ _ _ _ _ c.args.label.now c.requires.last c.in_ok-number.ensures
