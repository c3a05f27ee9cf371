use Rattle.hip_types.specs.Bytes.{zeros}
use Rattle.hip_lockstep.proofs.given.lengthen.Goals as goal

pub returns : goal.returns
unfolding zeros
returns c = rw (← c.len.ensures) c.push_zeros.ensures.ok
