use Rattle.hip_scope.proofs.Growth.{makes_also, makes_both}
use Rattle.hip_instr_ops.proofs.ValueOps.{does_select}
use Rattle.hip_instr_ops.proofs.values.select.Goals as goal

pub returns : goal.returns
returns c =
    makes_also (makes_both (makes_both c.in_ok-test.ensures.stands c.in_ok-a.ensures.stands) c.in_ok-b.ensures.stands) (λ t h ty. does_select _ _ _ t _ _ ty _ _ _ _ _ _ c.in_ok-dest.ensures h.0.0 h.0.1 h.1)
