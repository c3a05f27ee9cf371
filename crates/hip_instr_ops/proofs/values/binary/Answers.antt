use Rattle.hip_scope.proofs.Growth.{makes_also, makes_both}
use Rattle.hip_instr_ops.proofs.ValueOps.{does_binary}
use Rattle.hip_instr_ops.proofs.values.binary.Goals as goal

pub returns : goal.returns
returns c =
    rw c.binary_value-value.ensures (makes_also (makes_both c.in_ok-a.ensures.stands c.in_ok-b.ensures.stands) (λ t h flags. does_binary _ _ _ t c.args.op _ _ flags _ _ _ _ _ c.in_ok-dest.ensures h.0 h.1))
