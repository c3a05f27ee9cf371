-- The first field of a text, and what follows it.
use Rattle.std.proofs.Common.{◌≡◌, ℕ, suc, ◌+◌, ◌<◌, ◌≤◌, Bool, true, false, not, cond, List, [], ◌∷◌, length, take, drop, refl, arith, add-one, None}
use Rattle.std.specs.List.{slice_split, onto_first, prefix_len}
use Rattle.std.specs.Prelude.{◌==◌}
use Rattle.hip_tokens.specs.Bytes.{byte}
use Rattle.hip_trace.specs.Entries.{fields, one_field, alone}
use Rattle.hip_trace.specs.declared.entry.Entry.{Entry}

module _ (p : ℕ → Bool) where
  before : List ℕ → ℕ
  before xs = prefix_len (λ x. not (p x)) xs

  Splits : List ℕ → Type 0
  Splits xs = slice_split p xs ≡ take (before xs) xs ∷ slice_split p (drop (suc (before xs)) xs)

  first_by : (x : ℕ) (xs : List ℕ) (b : Bool) → p x ≡ b → (before xs < length xs → Splits xs)
      → before (x ∷ xs) < length (x ∷ xs) → Splits (x ∷ xs)
  unfolding before Splits
  first_by x xs true e ih lt = rw e refl
  first_by x xs false e ih lt =
      let k : ℕ = prefix_len (λ y. not (p y)) xs in
      let one : 1 + k ≡ suc k = omega arith in
      let len : prefix_len (λ y. not (p y)) (x ∷ xs) ≡ suc k = rw e one in
      rw (e, one, ih (omega arith)) refl

  -- The first part ends before the first element that passes.
  first_part_is : (xs : List ℕ) → before xs < length xs → Splits xs
  unfolding before Splits
  first_part_is [] lt = absurd (omega arith)
  first_part_is (x ∷ xs) lt = first_by x xs (p x) refl (first_part_is xs) lt

  only_by : (x : ℕ) (xs : List ℕ) (b : Bool) → p x ≡ b
      → (length xs ≤ before xs → slice_split p xs ≡ xs ∷ []) → length (x ∷ xs) ≤ before (x ∷ xs)
      → slice_split p (x ∷ xs) ≡ (x ∷ xs) ∷ []
  unfolding before
  only_by x xs true e ih le =
      let len : prefix_len (λ y. not (p y)) (x ∷ xs) ≡ 0 = rw e refl in
      absurd (omega arith)
  only_by x xs false e ih le =
      let k : ℕ = prefix_len (λ y. not (p y)) xs in
      let one : 1 + k ≡ suc k = omega arith in
      let len : prefix_len (λ y. not (p y)) (x ∷ xs) ≡ suc k = rw e one in
      rw (e, ih (omega arith)) refl

  -- The whole is one part if no element passes.
  only_part_is : (xs : List ℕ) → length xs ≤ before xs → slice_split p xs ≡ xs ∷ []
  unfolding before
  only_part_is [] le = refl
  only_part_is (x ∷ xs) le = only_by x xs (p x) refl (only_part_is xs) le

pub first_part : (p : ℕ → Bool) (xs : List ℕ) (n m : ℕ) → n ≡ prefix_len (λ x. not (p x)) xs
    → n < length xs → m ≡ n + 1 → slice_split p xs ≡ take n xs ∷ slice_split p (drop m xs)
unfolding before Splits
first_part p xs n m e lt f = rw (f, e, add-one) (first_part_is p xs (rw (← e) lt))

pub only_part : (p : ℕ → Bool) (xs : List ℕ) (n : ℕ) → n ≡ prefix_len (λ x. not (p x)) xs
    → length xs ≤ n → slice_split p xs ≡ xs ∷ []
unfolding before
only_part p xs n e le = only_part_is p xs (rw (← e) le)

-- A text has a field.
pub some_field : (p : ℕ → Bool) (xs : List ℕ) → (a : List ℕ) × (as' : List (List ℕ))
    × (slice_split p xs ≡ a ∷ as')
some_field p [] = ([], [], refl)
some_field p (x ∷ xs) = some_by (p x) (some_field p xs)
  where
    some_by : (b : Bool) → ((a : List ℕ) × (as' : List (List ℕ)) × (slice_split p xs ≡ a ∷ as'))
        → (a : List ℕ) × (as' : List (List ℕ))
        × (cond b ([] ∷ slice_split p xs) (onto_first x (slice_split p xs)) ≡ a ∷ as')
    some_by true h = ([], slice_split p xs, refl)
    some_by false h = (x ∷ h.0, h.1, rw h.2 refl)

pub not_one : (a : List ℕ) (text : List ℕ) → None ≡ one_field (a ∷ fields text)
not_one a text = let h = some_field (λ b. b == byte ";") text in rw h.2 refl

pub not_alone : (e : Entry) (text : List ℕ) → None ≡ alone e (fields text)
not_alone e text = let h = some_field (λ b. b == byte ";") text in rw h.2 refl
