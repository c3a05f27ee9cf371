-- The numbers that picks give lines, as they are looked up and found.
use Rattle.std.specs.Prelude.{◌≡◌, ℕ, ◌≤◌, nat_eq, List, Option, Some, None, slice_get}
use Rattle.std.specs.Map.{lookup}
use Rattle.hip_lines.specs.Image.{IsLineImageAt}
use Rattle.hip_lines.specs.Line.{Line}
use Rattle.hip_runs.specs.Crash.{byte_of, covers}
use Rattle.hip_runs.specs.State.{State, StorePart}
use Rattle.hip_runs.specs.declared.input.Input.{Input}
use Rattle.hip_crash.specs.Picks.{number_for}
use Rattle.hip_types.specs.declared.pick.Bounds.{Bounds}
use Rattle.hip_types.specs.declared.pick.Pick.{Pick}

-- The number that a table by lines gives line j, if it has one.
abbrev pub number_in : List (ℕ × ℕ) → ℕ → Option ℕ
number_in entries j = lookup (nat_eq j) entries

-- The table gives each line the number that the picks give it; nothing for a line that no pick names.
pub record AreNumbers (picks : List Pick) (entries : List (ℕ × ℕ)) : Type 0 where
  pub are : (j : ℕ) → number_in entries j ≡ number_for picks j

-- The number of first parts lies between the bounds, or is one of them.
pub record IsBetween (bounds : Bounds) (upto : ℕ) : Type 0 where
  pub least : bounds.least ≤ upto
  pub most : upto ≤ bounds.most

-- An image has this many first parts in line j, if it is a crash image there.
abbrev pub IsNumberIn : Input → List ℕ → ℕ → Line StorePart → Option ℕ → Type 0
IsNumberIn I image j l None = (q : ℕ) → IsLineImageAt covers byte_of I.image image j l q → ⊥
IsNumberIn I image j l (Some q) = IsLineImageAt covers byte_of I.image image j l q

-- An image has this many first parts in line j, or none if it is not a crash image there; nothing is required if the
-- region has no line j.
pub record IsNumberOf (I : Input) (s : State) (image : List ℕ) (j : ℕ) (number : Option ℕ) : Type 0 where
  pub is : (l : Line StorePart) → slice_get s.lines j ≡ Some l → IsNumberIn I image j l number
