-- Lists of names: which names are among them, and at which place.
use Rattle.std.specs.Prelude.{ℕ, ◌≡◌, ◌<◌, ◌≤◌, ◌⊎◌, Bool, List, [], ◌∷◌, length, Option, Some, None, map, position}
use Rattle.std.specs.Borrow.{Bor}
use Rattle.std.specs.List.{list_any}
use Rattle.std.specs.Str.{bytes_eq}

-- One of the names is this one.
abbrev pub IsAmong : List (List ℕ) → List ℕ → Type 0
IsAmong [] name = ⊥
IsAmong (x ∷ xs) name = (x ≡ name) ⊎ IsAmong xs name

-- Whether one of the names is this one, by their bytes.
abbrev pub is_among : List (List ℕ) → List ℕ → Bool
is_among names name = list_any (bytes_eq name) names

-- Each name differs from those after it.
abbrev pub AllDiffer : List (List ℕ) → Type 0
AllDiffer [] = Unit {0}
AllDiffer (n ∷ ns) = (¬ IsAmong ns n) × AllDiffer ns

-- Both lists have the same names, perhaps in another order or more often.
abbrev pub Knows : List (List ℕ) → List (List ℕ) → Type 0
Knows known names = (name : List ℕ) → is_among known name ≡ is_among names name

-- The number of the first name that is this one.
abbrev pub number_of : List (List ℕ) → List ℕ → Option ℕ
number_of names name = position (bytes_eq name) names

-- The names of a table of references to them, none without a table.
abbrev pub names_in : {A : Type 0} → (A → List (Bor (List ℕ))) → Option A → List (List ℕ)
names_in keys None = []
names_in keys (Some table) = map (λ name. name.now) (keys table)

-- A first list of at most four items, and a second one that is empty until the first is full.
pub record IsFilled {A B : Type 0} (few : List A) (more : List B) : Type 0 where
  pub few_fit : length few ≤ 4
  pub in_order : length few < 4 → more ≡ []
