-- Lists without repeats, in the order of first occurrence.
use Rattle.std.specs.Prelude.{Bool, cond, List, [], ◌∷◌, ◌++◌}
use Rattle.std.specs.List.{list_any}

-- The first list, then the items of the second that are not there yet, each once.
abbrev pub met : {A : Type 0} → (A → A → Bool) → List A → List A → List A
met same xs [] = xs
met same xs (y ∷ ys) = met same (cond (list_any (same y) xs) xs (xs ++ y ∷ [])) ys
