-- The meaning of the code's targets.
use Rattle.std.specs.Prelude.{ℕ, List, [], ◌∷◌, ◌++◌, map, Option, Some, None}
use Rattle.std.specs.Borrow.{Bor}
use Rattle.hip_tree.specs.declared.block.Case.{Case}
use Rattle.hip_typing.specs.declared.places.targets.EndLabels.{EndLabels}

-- A label, as a list; empty if there is none.
abbrev pub label_seen : Option (Bor (List ℕ)) → List (List ℕ)
label_seen None = []
label_seen (Some label) = label.now ∷ []

-- The labels of a switch's cases, in order, with repeats.
abbrev pub case_labels : List Case → List (List ℕ)
case_labels cases = map (λ c. c.label) cases

-- The labels that the code's targets hold, in order: up to two, and then those of cases.
abbrev pub targets_seen : EndLabels → List (List ℕ)
targets_seen t = label_seen t.first ++ (label_seen t.second ++ case_labels t.cases.now)
