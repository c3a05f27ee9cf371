-- Calls that were on the stack together, and their births.
use Rattle.std.specs.Prelude.{◌≡◌, ℕ, List, [], ◌∷◌, ◌++◌}
use Rattle.hip_runs.specs.State.{Level}
use Rattle.hip_ledger.specs.declared.calls.Calls.TheInside.{Inside}

-- The births of these calls, the outermost one first.
abbrev pub births_of : List Level → List ℕ
births_of [] = []
births_of (l ∷ ls) = births_of ls ++ l.birth ∷ []

-- The births are those of the calls.
pub record HaveBirths (c : Inside) : Type 0 where
  pub are : c.births.items ≡ births_of c.path.value
