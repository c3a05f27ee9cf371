use Rattle.hip_tree.specs.declared.block.End.TheVariants as ends
use Rattle.hip_ir.proofs.Copied.{copied}
use Rattle.hip_ir.proofs.block.EndStructural.copy.Goals as goal

pub returns-in_ok-cond-in-CondBr : goal.returns-in_ok-cond-in-CondBr
returns-in_ok-cond-in-CondBr c =
    let e = c.in-CondBr in
    copied c.in_ok-cond-in-CondBr.ensures (λ k. ends.CondBr k.0 k.1 k.2) e.is

pub returns-in_ok-value-in-Switch : goal.returns-in_ok-value-in-Switch
returns-in_ok-value-in-Switch c =
    let e = c.in-Switch in
    copied c.in_ok-value-in-Switch.ensures (λ k. ends.Switch e.width k.0 k.1 k.2) e.is
