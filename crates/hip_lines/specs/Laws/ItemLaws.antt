-- Laws of the items of a list by their places, after one was replaced or added.
use Rattle.std.proofs.Common.{◌≡◌, ◌≢◌, ◌⊎◌, ℕ, zero, suc, ◌<◌, ◌==◌, true, false, Result, Ok, Err, OnOk, List, [], ◌∷◌, ◌++◌, length, slice_get, slice_set, get_or, Option, Some, refl, sym, ap, ◌∙◌, arith}
use Rattle.std.proofs.lemmas.Bool.Decides.{nat_tests}
use Rattle.std.proofs.lemmas.List.{get_or-set_same, length-set}
use Rattle.std.proofs.lemmas.Option.{slice_get-get_or}

pub equal_or_not : (j k : ℕ) → (((j == k) ≡ true) × (j ≡ k)) ⊎ (((j == k) ≡ false) × (j ≢ k))
equal_or_not j k = grind (arith, nat_tests)

pub some_same : {A : Type 0} (x y : A) → Some x ≡ Some y → x ≡ y
some_same x y e = cc

pub get-set_same : {A : Type 0} (xs : List A) (i : ℕ) (x : A) → i < length xs
    → slice_get (slice_set xs i x) i ≡ Some x
get-set_same xs i x h =
    slice_get-get_or (slice_set xs i x) i x (omega (arith, h, length-set xs i x))
    ∙ ap (λ y. Some y) (get_or-set_same xs i x x h)

pub get-set_other : {A : Type 0} (xs : List A) (i k : ℕ) (x : A) → k ≢ i
    → slice_get (slice_set xs i x) k ≡ slice_get xs k
get-set_other [] i k x ne = refl
get-set_other (y ∷ xs) zero zero x ne = absurd (ne refl)
get-set_other (y ∷ xs) zero (suc k) x ne = refl
get-set_other (y ∷ xs) (suc i) zero x ne = refl
get-set_other (y ∷ xs) (suc i) (suc k) x ne = get-set_other xs i k x (λ e. ne (ap suc e))

pub get-there : {A : Type 0} (xs : List A) (i : ℕ) → i < length xs → (x : A) × (slice_get xs i ≡ Some x)
get-there [] i h = absurd (omega arith)
get-there (y ∷ xs) zero h = (y, refl)
get-there (y ∷ xs) (suc i) h = get-there xs i (omega arith)

pub get-push_other : {A : Type 0} (xs : List A) (k : ℕ) (x : A) → k ≢ length xs
    → slice_get (xs ++ x ∷ []) k ≡ slice_get xs k
get-push_other [] zero x ne = absurd (ne refl)
get-push_other [] (suc k) x ne = refl
get-push_other (y ∷ xs) zero x ne = refl
get-push_other (y ∷ xs) (suc k) x ne = get-push_other xs k x (λ e. ne (ap suc e))

-- An item that was read at a place is the item at that place.
pub get-read : {A : Type 0} (xs : List A) (i : ℕ) (x : A) → i < length xs → x ≡ get_or xs i x
    → slice_get xs i ≡ Some x
get-read xs i x h e = slice_get-get_or xs i x h ∙ ap (λ y. Some y) (sym e)

-- If the answer is `Ok`, what follows from its fact holds too.
pub on_ok_map : {A E P Q : Type 0} (r : Result A E) → (P → Q) → OnOk r P → OnOk r Q
on_ok_map (Ok x) f p = f p
on_ok_map (Err e) f p = tt
