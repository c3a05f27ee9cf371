use Rattle.hip_instr_ops.proofs.ValueOps.{does_alloca}
use Rattle.hip_instr_ops.proofs.memory.alloca.Goals as goal

pub returns : goal.returns
returns c =
    rw (c.small_size.ensures, c.small_align.ensures) (λ t written. does_alloca _ _ _ t _ _ _ written c.in_ok-dest.ensures)
