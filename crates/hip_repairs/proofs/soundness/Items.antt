-- The items of lists by their places, and the rule that each meets.
use Rattle.std.proofs.Common.{◌≡◌, ◌⊎◌, inl, inr, ⊎_elim, ℕ, zero, suc, Bool, true, List, [], ◌∷◌, ◌++◌, map, take, Some, slice_get, refl, sym, ap}
use Rattle.std.specs.List.{list_all}
use Rattle.std.proofs.lemmas.List.Sums.{AllPass-from_list_all, list_all-from_AllPass}
use Rattle.std.proofs.lemmas.Option.{same_Some}
use Rattle.hip_sound.specs.Laws.Decided.{all-at, all-made}

-- A test holds of all items exactly if it holds at each place.
pub all_make : {A : Type 0} (test : A → Bool) (xs : List A) → ((k : ℕ) (x : A) → slice_get xs k ≡ Some x → test x ≡ true) → list_all test xs ≡ true
all_make test xs h = list_all-from_AllPass test xs (all-made (λ x. test x ≡ true) xs h)

pub all_at : {A : Type 0} (test : A → Bool) (xs : List A) (k : ℕ) (x : A) → list_all test xs ≡ true → slice_get xs k ≡ Some x → test x ≡ true
all_at test xs k x h e = all-at (λ x. test x ≡ true) xs k x (AllPass-from_list_all test xs h) e

abbrev IsFront : {A : Type 0} → List A → List A → ℕ → A → Type 0
IsFront xs ys k v = (slice_get xs k ≡ Some v) × (take k (xs ++ ys) ≡ take k xs)

abbrev IsBack : {A : Type 0} → List A → List A → ℕ → A → Type 0
IsBack xs ys k v = (j : ℕ) × (slice_get ys j ≡ Some v) × (take k (xs ++ ys) ≡ xs ++ take j ys)

-- An item of two lists joined is in the first list or in the second; and the items before it.
pub place_in : {A : Type 0} (xs ys : List A) (k : ℕ) (v : A) → slice_get (xs ++ ys) k ≡ Some v → IsFront xs ys k v ⊎ IsBack xs ys k v
place_in [] ys k v e = inr (k, e, refl)
place_in (x ∷ xs) ys zero v e = inl (e, refl)
place_in (x ∷ xs) ys (suc k) v e =
    ⊎_elim (λ f. inl (f.0, ap (λ zs. x ∷ zs) f.1)) (λ b. inr (b.0, b.1, ap (λ zs. x ∷ zs) b.2)) (place_in xs ys k v e)

pub map_at : {A B : Type 0} (f : A → B) (xs : List A) (k : ℕ) (y : B) → slice_get (map f xs) k ≡ Some y → (x : A) × (slice_get xs k ≡ Some x) × (y ≡ f x)
map_at f [] k y e = cc
map_at f (x ∷ xs) zero y e = (x, refl, sym (same_Some (f x) y e))
map_at f (x ∷ xs) (suc k) y e = map_at f xs k y e
