-- The pending parts of all lines, as a list, from those of each line by its number.
use Rattle.std.proofs.Common.{◌≡◌, ℕ, zero, suc, ◌+◌, ◌<◌, cond, ◌∷◌, length, map, replicate, Some, slice_get, refl, sym, ap, ap₂, ◌∙◌, arith}
use Rattle.hip_lines.specs.Line.{has_bytes, change_from}
use Rattle.hip_lines.specs.Views.{table_from}

module _ {A : Type 0} where
  pub length-table_from : (g : ℕ → A) (j n : ℕ) → length (table_from g j n) ≡ n
  length-table_from g j zero = refl
  length-table_from g j (suc n) = ap suc (length-table_from g (suc j) n)

  pub table_same : (g g' : ℕ → A) → ((j : ℕ) → g' j ≡ g j) → (j n : ℕ) → table_from g' j n ≡ table_from g j n
  table_same g g' h j zero = refl
  table_same g g' h j (suc n) = ap₂ (λ x xs. x ∷ xs) (h j) (table_same g g' h (suc j) n)

  pub table_changed : (f : ℕ → A → A) (o m : ℕ) (g g' : ℕ → A) → ((j : ℕ) → g' j ≡ cond (has_bytes j o m) (f j (g j)) (g j)) → (j n : ℕ) → table_from g' j n ≡ change_from f o m j (table_from g j n)
  table_changed f o m g g' h j zero = refl
  table_changed f o m g g' h j (suc n) = ap₂ (λ x xs. x ∷ xs) (h j) (table_changed f o m g g' h (suc j) n)

  pub table_mapped : (f : A → A) (g g' : ℕ → A) → ((j : ℕ) → g' j ≡ f (g j)) → (j n : ℕ) → table_from g' j n ≡ map f (table_from g j n)
  table_mapped f g g' h j zero = refl
  table_mapped f g g' h j (suc n) = ap₂ (λ x xs. x ∷ xs) (h j) (table_mapped f g g' h (suc j) n)

  pub table_replicated : (x : A) (g : ℕ → A) → ((j : ℕ) → g j ≡ x) → (j n : ℕ) → table_from g j n ≡ replicate n x
  table_replicated x g h j zero = refl
  table_replicated x g h j (suc n) = ap₂ (λ y ys. y ∷ ys) (h j) (table_replicated x g h (suc j) n)

  pub slice_get-table_from : (g : ℕ → A) (j n k : ℕ) → k < n → slice_get (table_from g j n) k ≡ Some (g (j + k))
  slice_get-table_from g j zero k h = absurd (omega arith)
  slice_get-table_from g j (suc n) zero h = ap (λ i. Some (g i)) (let e : j ≡ j + 0 = omega arith in e)
  slice_get-table_from g j (suc n) (suc k) h = slice_get-table_from g (suc j) n k (omega arith) ∙ ap (λ i. Some (g i)) (let e : suc j + k ≡ j + suc k = omega arith in e)

  some_same : (x y : A) → Some x ≡ Some y → x ≡ y
  some_same x y e = cc

  -- Equal lists have equal values at each of their places.
  pub table_at : (g g' : ℕ → A) (n k : ℕ) → k < n → table_from g' 0 n ≡ table_from g 0 n → g' k ≡ g k
  table_at g g' n k h e =
      let z : 0 + k ≡ k = omega arith in
      some_same (g' k) (g k) (ap (λ i. Some (g' i)) (sym z) ∙ sym (slice_get-table_from g' 0 n k h) ∙ ap (λ xs. slice_get xs k) e ∙ slice_get-table_from g 0 n k h ∙ ap (λ i. Some (g i)) z)
