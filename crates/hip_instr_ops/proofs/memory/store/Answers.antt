use Rattle.hip_scope.proofs.Growth.{makes_also, makes_both}
use Rattle.hip_instr_ops.proofs.ValueOps.{does_store}
use Rattle.hip_instr_ops.proofs.memory.store.Goals as goal

pub returns : goal.returns
returns c =
    rw (c.scalar_size.ensures.size, c.access_align.ensures) (makes_also (makes_both c.in_ok-value.ensures.stands c.in_ok-addr.ensures.stands) (λ t h. does_store _ _ _ t _ _ _ _ _ _ c.requires.written h.0 h.1))
