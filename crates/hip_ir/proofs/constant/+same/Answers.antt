use Rattle.std.proofs.Common.{◌≡◌, ◌∙◌, sym, ap, List}
use Rattle.std.specs.Prelude.{◌↔◌, IsTrue, Bool}
use Rattle.hip_tree.specs.declared.constant.Const.{out-Const}
use Rattle.hip_tree.specs.declared.constant.ConstGep.{ConstGep}
use Rattle.hip_tree.specs.declared.constant.TypedConst.{TypedConst}
use Rattle.hip_tree.specs.declared.constant.Const.TheVariants as consts
use Rattle.hip_tree.specs.Laws.Levels.{out-Const-Gep, out-Const-Array, out-Const-Struct}
use Rattle.hip_ir.proofs.constant.+same.Goals as goal

gep_stated : (v w : ConstGep) → consts.Gep v ≡ consts.Gep w → v ≡ w
gep_stated v w e = cc (sym (out-Const-Gep v) ∙ (ap out-Const e ∙ out-Const-Gep w))

array_stated : (v w : List TypedConst) → consts.Array v ≡ consts.Array w → v ≡ w
array_stated v w e = cc (sym (out-Const-Array v) ∙ (ap out-Const e ∙ out-Const-Array w))

struct_stated : (v w : List TypedConst) → consts.Struct v ≡ consts.Struct w → v ≡ w
struct_stated v w e = cc (sym (out-Const-Struct v) ∙ (ap out-Const e ∙ out-Const-Struct w))

-- A test of two parts, as they are seen, tests what one injective constructor makes of them.
of_parts : {A B : Type 0} {b : Bool} {u v x y : A} {p q : B} (make : A → B)
    → ((m n : A) → make m ≡ make n → m ≡ n) → p ≡ make x → q ≡ make y → u ≡ x → v ≡ y
    → (IsTrue b ↔ (u ≡ v)) → IsTrue b ↔ (p ≡ q)
of_parts make stated p q u v parts = (
  λ t. p ∙ (ap make (sym u ∙ (parts.0 t ∙ v)) ∙ sym q),
  λ e. parts.1 (u ∙ (stated _ _ (sym p ∙ (e ∙ q)) ∙ sym v)),
)

pub same_const-returns-in-Gep-Gep : goal.same_const-returns-in-Gep-Gep
same_const-returns-in-Gep-Gep t c =
    of_parts consts.Gep gep_stated c.in-Gep-Gep.is-0 c.in-Gep-Gep.is-1
    c.get.ensures c.get-in-Gep-Gep.ensures c.same_gep.ensures

pub same_const-returns-in-Array-Array : goal.same_const-returns-in-Array-Array
same_const-returns-in-Array-Array t c =
    of_parts consts.Array array_stated c.in-Array-Array.is-0 c.in-Array-Array.is-1
    c.as_slice.ensures c.as_slice-in-Array-Array.ensures c.same_items.ensures

pub same_const-returns-in-Struct-Struct : goal.same_const-returns-in-Struct-Struct
same_const-returns-in-Struct-Struct t c =
    of_parts consts.Struct struct_stated c.in-Struct-Struct.is-0 c.in-Struct-Struct.is-1
    c.as_slice-in-Struct-Struct.ensures c.as_slice-in-Struct-Struct-2.ensures
    c.same_items-in-Struct-Struct.ensures
