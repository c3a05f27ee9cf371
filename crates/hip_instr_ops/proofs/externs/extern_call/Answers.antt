use Rattle.hip_instr_ops.proofs.EffectOps.{does_extern}
use Rattle.hip_scope.proofs.Growth.{makes_also, makes_both}
use Rattle.hip_instr_ops.proofs.externs.extern_call.Goals as goal

pub returns : goal.returns
returns c =
    rw c.effect.ensures
    (makes_also (makes_both c.in_ok-a.ensures c.in_ok-b.ensures)
    (λ t h ret. does_extern c.args.scope.now t _ _ ret _ _ _ _ _ c.requires.named c.in_ok-slot.ensures c.requires.as_long h.0 h.1))
