-- Laws of names among others.
use Rattle.std.specs.Prelude.{ℕ, ◌≡◌, ◌⊎◌, ◌||◌, Bool, true, false, List, [], ◌∷◌, ◌++◌}
use Rattle.std.specs.Bool.{Decides}
use Rattle.std.specs.Cmp.{both_ways}
use Rattle.std.specs.Str.{bytes_eq}
use Rattle.std.proofs.Common.{refl, sym, inl, inr, ⊎_elim}
use Rattle.std.proofs.lemmas.Slice.Eq.{bytes_eq-Decides}
use Rattle.hip_names.specs.Names.{IsAmong, is_among}

pub bytes_eq-sym : (xs ys : List ℕ) → bytes_eq xs ys ≡ bytes_eq ys xs
bytes_eq-sym xs ys =
    both_ways _ _ (λ e. (bytes_eq-Decides ys xs).1 (sym ((bytes_eq-Decides xs ys).0 e)))
    (λ e. (bytes_eq-Decides xs ys).1 (sym ((bytes_eq-Decides ys xs).0 e)))

pub among-sound : (xs : List (List ℕ)) (name : List ℕ) → is_among xs name ≡ true → IsAmong xs name
among-sound [] name e = cc
among-sound (x ∷ xs) name e = first_or_later (bytes_eq name x) refl (λ f. among-sound xs name f) e
  where
    first_or_later : (b : Bool) → bytes_eq name x ≡ b → (is_among xs name ≡ true → IsAmong xs name)
        → (b || is_among xs name) ≡ true → IsAmong (x ∷ xs) name
    first_or_later true same later f = inl (sym ((bytes_eq-Decides name x).0 same))
    first_or_later false same later f = inr (later f)

pub among-whole : (xs : List (List ℕ)) (name : List ℕ) → IsAmong xs name → is_among xs name ≡ true
among-whole [] name h = absurd h
among-whole (x ∷ xs) name (inl e) = rw ((bytes_eq-Decides name x).1 (sym e)) refl
among-whole (x ∷ xs) name (inr h) = later (bytes_eq name x) (among-whole xs name h)
  where
    later : (b : Bool) → is_among xs name ≡ true → (b || is_among xs name) ≡ true
    later true e = refl
    later false e = e

pub among-decides : (xs : List (List ℕ)) (name : List ℕ) → Decides (is_among xs name) (IsAmong xs name)
among-decides xs name = (among-sound xs name, among-whole xs name)

pub among-left : (xs ys : List (List ℕ)) (name : List ℕ) → IsAmong xs name → IsAmong (xs ++ ys) name
among-left [] ys name h = absurd h
among-left (x ∷ xs) ys name (inl e) = inl e
among-left (x ∷ xs) ys name (inr h) = inr (among-left xs ys name h)

pub among-right : (xs ys : List (List ℕ)) (name : List ℕ) → IsAmong ys name → IsAmong (xs ++ ys) name
among-right [] ys name h = h
among-right (x ∷ xs) ys name h = inr (among-right xs ys name h)

pub among-either : (xs ys : List (List ℕ)) (name : List ℕ) → IsAmong (xs ++ ys) name → IsAmong xs name
    ⊎ IsAmong ys name
among-either [] ys name h = inr h
among-either (x ∷ xs) ys name (inl e) = inl (inl e)
among-either (x ∷ xs) ys name (inr h) = ⊎_elim (λ l. inl (inr l)) (λ r. inr r) (among-either xs ys name h)
