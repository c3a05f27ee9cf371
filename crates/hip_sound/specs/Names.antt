-- Names with the places at which they are declared, and the requirement that they differ.
use Rattle.std.specs.Prelude.{ℕ, ◌+◌, not, List, [], ◌∷◌, ◌++◌}
use Rattle.hip_names.specs.Names.{IsAmong, is_among}
use Rattle.hip_sound.specs.Requirement.{Requirement, asks, and_then, nothing_asked}
use Rattle.hip_sound.specs.declared.fault.Fault.TheVariants as breaks
use Rattle.hip_sound.specs.declared.fault.Place.{Place}

-- A name, and the place at which it is declared.
pub record Named : Type 0 where
  pub name : List ℕ
  pub place : Place

-- Each name differs from those before it in the list and from the names `earlier`.
abbrev pub differ_after : List (List ℕ) → List Named → Requirement
differ_after earlier [] = nothing_asked
differ_after earlier (x ∷ xs) =
    and_then (asks (¬ IsAmong earlier x.name) (not (is_among earlier x.name)) breaks.Duplicate x.place)
    (differ_after (earlier ++ x.name ∷ []) xs)

-- Each name differs from those before it; the first name that does not is found, at its own place.
abbrev pub all_differ : List Named → Requirement
all_differ names = differ_after [] names

-- What `make` gives for each item of a list and its number; the first item has number n.
abbrev pub numbered_from : {A B : Type 0} → ℕ → (ℕ → A → B) → List A → List B
numbered_from n make [] = []
numbered_from n make (x ∷ xs) = make n x ∷ numbered_from (n + 1) make xs

-- What `make` gives for each item of a list and its number, counted from 0.
abbrev pub numbered : {A B : Type 0} → (ℕ → A → B) → List A → List B
numbered make xs = numbered_from 0 make xs
