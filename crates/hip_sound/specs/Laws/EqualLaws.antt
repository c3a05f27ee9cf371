-- The tests of types and operands decide equality.
use Rattle.std.specs.Prelude.{◌≡◌, true, List, [], ◌∷◌, map, Option, Some, None}
use Rattle.std.specs.Bool.{Decides}
use Rattle.std.specs.Cmp.Derive.{both_true}
use Rattle.std.proofs.Common.{refl, ap, subst, ◌∙◌}
use Rattle.std.proofs.lemmas.Bool.{and_parts}
use Rattle.hip_types.specs.declared.number.Bits.{Bits}
use Rattle.hip_types.specs.declared.number.Scalar.{Scalar}
use Rattle.hip_types.specs.declared.number.Scalar.TheVariants as scalars
use Rattle.hip_tree.specs.declared.instr.Operand.{Operand}
use Rattle.hip_sound.specs.Laws.ConstLaws.{same_operand-equal, same_operand-refl, same_bits-equal, same_bits-refl}
use Rattle.hip_sound.specs.Equal.{same_bits, same_operand}
use Rattle.hip_sound.specs.Types.{same_scalar, same_result, all_pass}
use Rattle.hip_sound.specs.Laws.TypeLaws.{same_width-equal, same_width-refl}

same_scalar-equal : (a b : Scalar) → same_scalar a b ≡ true → a ≡ b
same_scalar-equal (scalars.Int v) (scalars.Int w) e = ap (λ x. scalars.Int x) (same_width-equal v w e)
same_scalar-equal (scalars.Int v) scalars.Ptr e = cc
same_scalar-equal scalars.Ptr (scalars.Int w) e = cc
same_scalar-equal scalars.Ptr scalars.Ptr e = refl

same_scalar-refl : (a : Scalar) → same_scalar a a ≡ true
same_scalar-refl (scalars.Int w) = same_width-refl w
same_scalar-refl scalars.Ptr = refl

pub same_scalar-decides : (a b : Scalar) → Decides (same_scalar a b) (a ≡ b)
same_scalar-decides a b =
    (same_scalar-equal a b, λ e. subst (λ (x : Scalar). same_scalar a x ≡ true) e (same_scalar-refl a))

same_result-equal : (a b : Option Scalar) → same_result a b ≡ true → a ≡ b
same_result-equal None None e = refl
same_result-equal None (Some b) e = cc
same_result-equal (Some a) None e = cc
same_result-equal (Some a) (Some b) e = ap (λ x. Some x) (same_scalar-equal a b e)

same_result-refl : (a : Option Scalar) → same_result a a ≡ true
same_result-refl None = refl
same_result-refl (Some a) = same_scalar-refl a

pub same_result-decides : (a b : Option Scalar) → Decides (same_result a b) (a ≡ b)
same_result-decides a b =
    (same_result-equal a b, λ e. subst (λ (x : Option Scalar). same_result a x ≡ true) e (same_result-refl a))

same_scalars-equal : (xs ys : List Scalar) → all_pass (map same_scalar xs) ys ≡ true → xs ≡ ys
same_scalars-equal [] [] e = refl
same_scalars-equal [] (y ∷ ys) e = cc
same_scalars-equal (x ∷ xs) [] e = cc
same_scalars-equal (x ∷ xs) (y ∷ ys) e =
    let both = and_parts (same_scalar x y) (all_pass (map same_scalar xs) ys) e in
    ap (λ z. z ∷ xs) (same_scalar-equal x y both.0) ∙ ap (λ zs. y ∷ zs) (same_scalars-equal xs ys both.1)

same_scalars-refl : (xs : List Scalar) → all_pass (map same_scalar xs) xs ≡ true
same_scalars-refl [] = refl
same_scalars-refl (x ∷ xs) = both_true (same_scalar-refl x) (same_scalars-refl xs)

pub same_scalars-decides : (xs ys : List Scalar) → Decides (all_pass (map same_scalar xs) ys) (xs ≡ ys)
same_scalars-decides xs ys = (
  same_scalars-equal xs ys,
  λ e. subst (λ (zs : List Scalar). all_pass (map same_scalar xs) zs ≡ true) e
      (same_scalars-refl xs),
)

pub same_bits-decides : (a b : Bits) → Decides (same_bits a b) (a ≡ b)
same_bits-decides a b = (same_bits-equal a b, λ e. subst (λ (x : Bits). same_bits a x ≡ true) e (same_bits-refl a))

pub same_operand-decides : (a b : Operand) → Decides (same_operand a b) (a ≡ b)
same_operand-decides a b =
    (same_operand-equal a b, λ e. subst (λ (x : Operand). same_operand a x ≡ true) e (same_operand-refl a))
