use Rattle.hip_end_ops.proofs.EndOps.{ends_value}
use Rattle.hip_end_ops.proofs.ends.give_back.Goals as goal

pub returns : goal.returns
returns c = ends_value _ _ _ _ _ c.args.arg.now c.requires.last c.in_ok-value.ensures.stands
