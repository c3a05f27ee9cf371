-- The parts of stores that cache lines have.
use Rattle.std.specs.Prelude.{◌≡◌, ◌⊎◌, List, [], ◌∷◌}
use Rattle.hip_lines.specs.Line.{Line}
use Rattle.hip_runs.specs.State.{StorePart}

-- One of the items is this one.
abbrev pub In : {A : Type 0} → A → List A → Type 0
In v [] = ⊥
In v (x ∷ xs) = (v ≡ x) ⊎ In v xs

-- One of the lines has this part.
abbrev pub PartOf : List (Line StorePart) → StorePart → Type 0
PartOf [] x = ⊥
PartOf (l ∷ ls) x = In x l.parts ⊎ PartOf ls x
