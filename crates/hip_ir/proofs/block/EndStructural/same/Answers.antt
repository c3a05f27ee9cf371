use Rattle.std.proofs.Common.{◌≡◌, ℕ, List}
use Rattle.std.specs.Prelude.{◌↔◌}
use Rattle.hip_types.specs.declared.number.Width.{Width}
use Rattle.hip_tree.specs.declared.block.Case.{Case}
use Rattle.hip_tree.specs.declared.block.End.TheVariants as ends
use Rattle.hip_tree.specs.declared.instr.Operand.{Operand}
use Rattle.hip_ir.proofs.Compared.{of_fields}
use Rattle.hip_ir.proofs.block.EndStructural.same.Goals as goal

branch_fields : {a x : Operand} {l m r s : List ℕ}
    → ((a ≡ x) × ((l ≡ m) × (r ≡ s))) ↔ (ends.CondBr a l r ≡ ends.CondBr x m s)
branch_fields = (λ e. cc, λ e. (cc, (cc, cc)))

switch_fields : {v w : Width} {a x : Operand} {l m : List ℕ} {c d : List Case}
    → ((v ≡ w) × ((a ≡ x) × ((l ≡ m) × (c ≡ d)))) ↔ (ends.Switch v a l c ≡ ends.Switch w x m d)
switch_fields = (λ e. cc, λ e. (cc, (cc, (cc, cc))))

pub returns-in-CondBr-CondBr : goal.returns-in-CondBr-CondBr
returns-in-CondBr-CondBr c =
    of_fields c.in-CondBr-CondBr.is-0 c.in-CondBr-CondBr.is-1 branch_fields c.same_three.ensures

pub returns-in-Switch-Switch : goal.returns-in-Switch-Switch
returns-in-Switch-Switch c =
    of_fields c.in-Switch-Switch.is-0 c.in-Switch-Switch.is-1 switch_fields c.same_four.ensures
