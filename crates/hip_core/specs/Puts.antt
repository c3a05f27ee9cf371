-- Slots after values were put into them.
use Rattle.std.specs.Prelude.{ℕ, ◌+◌, List, [], ◌∷◌, Option, Some, None, slice_set}
use Rattle.hip_code.specs.declared.op.Move.{Move}

-- The slots from a base on after moves with these values; the first move is written last.
abbrev pub put_values : ℕ → List Move → List ℕ → List ℕ → List ℕ
put_values base [] vs xs = xs
put_values base (m ∷ ms) [] xs = xs
put_values base (m ∷ ms) (v ∷ vs) xs = slice_set (put_values base ms vs xs) (base + m.dest) v

-- The slots after a result was put into its slot; unchanged if the result goes nowhere.
abbrev pub with_result : ℕ → Option ℕ → ℕ → List ℕ → List ℕ
with_result base None v xs = xs
with_result base (Some slot) v xs = slice_set xs (base + slot) v
