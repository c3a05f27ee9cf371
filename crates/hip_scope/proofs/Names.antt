-- Names and their numbers.
use Rattle.std.proofs.Common.{◌≡◌, ℕ, suc, List, [], ◌∷◌, Some, None, slice_get, ap, inl, inr}
use Rattle.hip_names.specs.Names.{IsAmong, number_of}
use Rattle.hip_names.specs.Laws.NumberLaws.{number_of-known}

-- A name that is among others is at some place.
among_there : (names : List (List ℕ)) (name : List ℕ) → IsAmong names name → (k : ℕ) × (slice_get names k ≡ Some name)
among_there [] name h = absurd h
among_there (x ∷ names) name (inl e) = (0, ap Some e)
among_there (x ∷ names) name (inr h) = let r = among_there names name h in (suc r.0, r.1)

-- A name that is among others has a number.
pub known_number : (names : List (List ℕ)) (name : List ℕ) → IsAmong names name → (k : ℕ) × (number_of names name ≡ Some k)
known_number names name h = let r = among_there names name h in number_of-known names name r.0 r.1

pub known_numbered : (names : List (List ℕ)) (name : List ℕ) → IsAmong names name → number_of names name ≡ None → ⊥
known_numbered names name h e = let r = known_number names name h in let q : ⊥ = cc (e, r.1) in q
