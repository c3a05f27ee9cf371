-- Tests and what they decide; and members of lists: by a test, of a flat map, and by their places.
use Rattle.std.proofs.Common.{◌≡◌, ◌⊎◌, inl, inr, ℕ, zero, suc, Bool, true, false, ◌||◌, List, [], ◌∷◌, Some, slice_get, refl, subst, arith, nat_eq, sym, ◌<◌, ◌≤◌, drop}
use Rattle.std.specs.List.{flat_map, list_any, list_all}
use Rattle.hip_runs.specs.StoredParts.Parts.{In}
use Rattle.hip_runs.specs.Laws.PartLaws.{in-append, append-left, append-right}
use Rattle.hip_types.specs.Laws.DistinctLaws.{or_second}
use Rattle.std.proofs.lemmas.Bool.Decides.{nat_tests}
use Rattle.std.specs.Prelude.{nat_le, nat_lt, ◌&&◌}

-- ---- tests and what they decide

pub both_true : (a b : Bool) → a && b ≡ true → (a ≡ true) × (b ≡ true)
both_true true b h = (refl, h)
both_true false b h = absurd (let z : ⊥ = cc in z)

pub true_both : {a b : Bool} → a ≡ true → b ≡ true → a && b ≡ true
true_both p q = rw (p, q) refl

pub equal_true : (a b : ℕ) → nat_eq a b ≡ true → a ≡ b
equal_true a b h = grind (arith, nat_tests)

pub true_equal : (a b : ℕ) → a ≡ b → nat_eq a b ≡ true
true_equal a b h = grind (arith, nat_tests)

pub le_true : (a b : ℕ) → nat_le a b ≡ true → a ≤ b
le_true a b h = grind (arith, nat_tests)

pub true_le : (a b : ℕ) → a ≤ b → nat_le a b ≡ true
true_le a b h = grind (arith, nat_tests)

pub lt_true : (a b : ℕ) → nat_lt a b ≡ true → a < b
lt_true a b h = grind (arith, nat_tests)

pub true_lt : (a b : ℕ) → a < b → nat_lt a b ≡ true
true_lt a b h = grind (arith, nat_tests)

or_false : (a b : Bool) → a || b ≡ false → (a ≡ false) × (b ≡ false)
or_false true b h = absurd (let z : ⊥ = cc in z)
or_false false b h = (refl, h)

module _ {A : Type 0} (test : A → Bool) where
  pub none_at : (xs : List A) → list_any test xs ≡ false → (j : ℕ) (y : A) → slice_get xs j ≡ Some y
      → test y ≡ false
  none_at [] h j y e = absurd (let z : ⊥ = cc in z)
  none_at (x ∷ xs) h zero y e = let q : x ≡ y = cc in subst (λ z. test z ≡ false) q (or_false (test x) _ h).0
  none_at (x ∷ xs) h (suc j) y e = none_at xs (or_false (test x) _ h).1 j y e

  pub at_none : (xs : List A) → ((j : ℕ) (y : A) → slice_get xs j ≡ Some y → test y ≡ false)
      → list_any test xs ≡ false
  at_none [] h = refl
  at_none (x ∷ xs) h = both (h 0 x refl) (at_none xs (λ j y e. h (suc j) y e))
    where
      both : {a b : Bool} → a ≡ false → b ≡ false → a || b ≡ false
      both p q = rw (p, q) refl

  pub any_in : (xs : List A) → list_any test xs ≡ true → (x : A) × In x xs × (test x ≡ true)
  any_in [] h = absurd (let z : ⊥ = cc in z)
  any_in (x ∷ xs) h = go (λ g. any_in xs g) (test x) refl h
    where
      go : (list_any test xs ≡ true → (y : A) × In y xs × (test y ≡ true)) → (b : Bool) → test x ≡ b
          → b || list_any test xs ≡ true → (y : A) × In y (x ∷ xs) × (test y ≡ true)
      go next true e h = (x, inl refl, e)
      go next false e h = let r = next h in (r.0, inr r.1, r.2)

  pub in_any : (xs : List A) (x : A) → In x xs → test x ≡ true → list_any test xs ≡ true
  in_any [] x i h = absurd i
  in_any (y ∷ xs) x (inl e) h = let q : test y ≡ true = subst (λ z. test z ≡ true) e h in rw q refl
  in_any (y ∷ xs) x (inr i) h = or_second (test y) _ (in_any xs x i h)

module _ {A B : Type 0} (f : A → List B) where
  pub of_flat : (xs : List A) (y : B) → In y (flat_map f xs)
      → (m : ℕ) × (x : A) × (slice_get xs m ≡ Some x) × In y (f x)
  of_flat [] y i = absurd i
  of_flat (x ∷ xs) y i = go (λ j. of_flat xs y j) (in-append (f x) (flat_map f xs) y i)
    where
      go : (In y (flat_map f xs) → (m : ℕ) × (z : A) × (slice_get xs m ≡ Some z) × In y (f z))
          → In y (f x) ⊎ In y (flat_map f xs) → (m : ℕ) × (z : A) × (slice_get (x ∷ xs) m ≡ Some z)
          × In y (f z)
      go next (inl j) = (0, x, refl, j)
      go next (inr j) = let r = next j in (suc r.0, r.1, r.2, r.3)

  pub to_flat : (xs : List A) (y : B) (m : ℕ) (x : A) → slice_get xs m ≡ Some x → In y (f x)
      → In y (flat_map f xs)
  to_flat [] y m x e i = absurd (let z : ⊥ = cc in z)
  to_flat (z ∷ xs) y zero x e i =
      let q : x ≡ z = cc in append-left (f z) (flat_map f xs) y (subst (λ w. In y (f w)) q i)
  to_flat (z ∷ xs) y (suc m) x e i = append-right (f z) (flat_map f xs) y (to_flat xs y m x e i)

pub in_at : {A : Type 0} (xs : List A) (k : ℕ) (x : A) → slice_get xs k ≡ Some x → In x xs
in_at [] k x e = absurd (let z : ⊥ = cc in z)
in_at (y ∷ xs) zero x e = inl (let z : x ≡ y = cc in z)
in_at (y ∷ xs) (suc k) x e = inr (in_at xs k x e)

module _ {A : Type 0} (test : A → Bool) where
  pub in_all : (xs : List A) → list_all test xs ≡ true → (x : A) → In x xs → test x ≡ true
  in_all [] h x i = absurd i
  in_all (y ∷ xs) h x (inl e) = subst (λ z. test z ≡ true) (sym e) (both_true (test y) _ h).0
  in_all (y ∷ xs) h x (inr i) = in_all xs (both_true (test y) _ h).1 x i

  pub all_in : (xs : List A) → ((x : A) → In x xs → test x ≡ true) → list_all test xs ≡ true
  all_in [] h = refl
  all_in (y ∷ xs) h = true_both (h y (inl refl)) (all_in xs (λ x i. h x (inr i)))

-- The first item after the first k items is at place k.
pub get_drop : {A : Type 0} (xs : List A) (k : ℕ) (x : A) (ys : List A) → drop k xs ≡ x ∷ ys
    → slice_get xs k ≡ Some x
get_drop [] zero x ys e = cc
get_drop [] (suc k) x ys e = cc
get_drop (y ∷ xs) zero x ys e = cc
get_drop (y ∷ xs) (suc k) x ys e = get_drop xs k x ys e
