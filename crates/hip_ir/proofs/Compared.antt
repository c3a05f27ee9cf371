-- A test of the parts of two values tests the values.
use Rattle.std.proofs.Common.{◌≡◌, ◌∙◌, sym}
use Rattle.std.specs.Prelude.{◌↔◌, IsTrue, Bool}

-- A test of the fields of two values of one variant tests the values.
pub of_fields : {A P : Type 0} {b : Bool} {p q m n : A} → p ≡ m → q ≡ n
    → (P ↔ (m ≡ n)) → (IsTrue b ↔ P) → IsTrue b ↔ (p ≡ q)
of_fields l r fields test =
    (λ t. l ∙ (fields.0 (test.0 t) ∙ sym r), λ e. test.1 (fields.1 (sym l ∙ (e ∙ r))))
