use Rattle.hip_scope.proofs.Growth.{makes_also}
use Rattle.hip_instr_ops.proofs.ValueOps.{does_cast}
use Rattle.hip_instr_ops.proofs.values.cast.Goals as goal

pub returns : goal.returns
returns c =
    rw (c.conversion.ensures, c.width_of.ensures, c.width_of-2.ensures) (makes_also c.in_ok-a.ensures.stands (λ t h. does_cast _ _ _ t _ _ _ _ _ _ _ c.in_ok-dest.ensures h))
