use Rattle.std.proofs.Common.{◌≡◌, ℕ, List, Option}
use Rattle.std.specs.Prelude.{◌↔◌}
use Rattle.hip_types.specs.declared.number.CastOp.{CastOp}
use Rattle.hip_types.specs.declared.number.Pred.{Pred}
use Rattle.hip_types.specs.declared.number.Scalar.{Scalar}
use Rattle.hip_tree.specs.declared.instr.Arg.{Arg}
use Rattle.hip_tree.specs.declared.instr.Instr.TheVariants as instrs
use Rattle.hip_tree.specs.declared.instr.Operand.{Operand}
use Rattle.hip_ir.proofs.Compared.{of_fields}
use Rattle.hip_ir.proofs.instr.InstrStructural.same.Goals as goal

compare_fields : {d t : List ℕ} {p q : Pred} {s r : Scalar} {a b x y : Operand}
    → ((d ≡ t) × ((p ≡ q) × ((s ≡ r) × ((a ≡ x) × (b ≡ y)))))
    ↔ (instrs.Compare d p s a b ≡ instrs.Compare t q r x y)
compare_fields = (λ e. cc, λ e. (cc, (cc, (cc, (cc, cc)))))

select_fields : {d t : List ℕ} {c z : Operand} {s r : Scalar} {a b x y : Operand}
    → ((d ≡ t) × ((c ≡ z) × ((s ≡ r) × ((a ≡ x) × (b ≡ y)))))
    ↔ (instrs.Select d c s a b ≡ instrs.Select t z r x y)
select_fields = (λ e. cc, λ e. (cc, (cc, (cc, (cc, cc)))))

cast_fields : {d t : List ℕ} {o p : CastOp} {s r u v : Scalar} {a x : Operand}
    → ((d ≡ t) × ((o ≡ p) × ((s ≡ r) × ((a ≡ x) × (u ≡ v)))))
    ↔ (instrs.Cast d o s a u ≡ instrs.Cast t p r x v)
cast_fields = (λ e. cc, λ e. (cc, (cc, (cc, (cc, cc)))))

call_fields : {d t : Option (List ℕ)} {s r : Option Scalar} {f g : List ℕ} {a x : List Arg}
    → ((d ≡ t) × ((s ≡ r) × ((f ≡ g) × (a ≡ x))))
    ↔ (instrs.Call d s f a ≡ instrs.Call t r g x)
call_fields = (λ e. cc, λ e. (cc, (cc, (cc, cc))))

pub returns-in-Compare-Compare : goal.returns-in-Compare-Compare
returns-in-Compare-Compare c =
    of_fields c.in-Compare-Compare.is-0 c.in-Compare-Compare.is-1 compare_fields c.same_five-in-Compare-Compare.ensures

pub returns-in-Select-Select : goal.returns-in-Select-Select
returns-in-Select-Select c =
    of_fields c.in-Select-Select.is-0 c.in-Select-Select.is-1 select_fields c.same_five-in-Select-Select.ensures

pub returns-in-Cast-Cast : goal.returns-in-Cast-Cast
returns-in-Cast-Cast c =
    of_fields c.in-Cast-Cast.is-0 c.in-Cast-Cast.is-1 cast_fields c.same_five-in-Cast-Cast.ensures

pub returns-in-Call-Call : goal.returns-in-Call-Call
returns-in-Call-Call c =
    of_fields c.in-Call-Call.is-0 c.in-Call-Call.is-1 call_fields c.same_four-in-Call-Call.ensures
