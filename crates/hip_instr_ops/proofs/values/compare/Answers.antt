use Rattle.hip_scope.proofs.Growth.{makes_also, makes_both}
use Rattle.hip_instr_ops.proofs.ValueOps.{does_compare}
use Rattle.hip_instr_ops.proofs.values.compare.Goals as goal

pub returns : goal.returns
returns c =
    rw (c.comparison.ensures, c.width_of.ensures) (makes_also (makes_both c.in_ok-a.ensures.stands c.in_ok-b.ensures.stands) (λ t h. does_compare _ _ _ t _ _ _ _ _ _ _ _ c.in_ok-dest.ensures h.0 h.1))
