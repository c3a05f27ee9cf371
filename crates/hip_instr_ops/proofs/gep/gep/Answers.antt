use Rattle.std.proofs.Common.{subst}
use Rattle.hip_instr_ops.specs.Far.{IsAddress}
use Rattle.hip_instr_ops.proofs.GepOps.{does_gep}
use Rattle.hip_scope.proofs.Growth.{makes_also, makes_both}
use Rattle.hip_instr_ops.proofs.gep.gep.Goals as goal

pub returns : goal.returns
returns c =
    makes_also (makes_both c.in_ok-base.ensures.stands c.in_ok-gep.ensures.address)
    (λ t h inbounds. does_gep _ t _ _ _ _ _ _ _ inbounds _ c.in_ok-dest.ensures h.0 c.in_ok-gep.ensures.small c.in_ok-path.ensures
    (subst (λ terms. IsAddress t c.in_ok-base.base c.in_ok-path.path.offset terms c.in_ok-gep.gep) c.as_slice.ensures h.1))
