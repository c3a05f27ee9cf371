use Rattle.hip_scope.proofs.Growth.{makes_also}
use Rattle.hip_instr_ops.proofs.ValueOps.{does_load}
use Rattle.hip_instr_ops.proofs.memory.load.Goals as goal

pub returns : goal.returns
returns c =
    rw (c.width_of.ensures, c.access_align.ensures) (makes_also c.in_ok-addr.ensures.stands (λ t h. does_load _ _ _ t _ _ _ _ _ _ c.requires.written c.in_ok-dest.ensures h))
