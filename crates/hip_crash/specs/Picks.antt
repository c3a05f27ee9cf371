-- Picks of crash images as lists that name some cache lines, and how they fail.
use Rattle.std.specs.Prelude.{◌≡◌, ◌⊎◌, ℕ, suc, ◌&&◌, cond, nat_eq, nat_le, nat_lt, List, [], ◌∷◌, ◌++◌, length, map, Option, Some, None, is_some, slice_get}
use Rattle.std.specs.List.{range_with_len}
use Rattle.hip_lines.specs.Line.{Line}
use Rattle.hip_runs.specs.Crash.{IsCrashImage, crash_image}
use Rattle.hip_runs.specs.State.{StorePart, State}
use Rattle.hip_runs.specs.declared.input.Input.{Input}
use Rattle.hip_types.specs.declared.pick.Bounds.{Bounds}
use Rattle.hip_types.specs.declared.pick.Pick.{Pick}
use Rattle.hip_types.specs.declared.pick.PickRefusal.{PickRefusal}
use Rattle.hip_types.specs.declared.pick.PickRefusal.TheVariants.{NoLine, Repeated, OutOfRange, NoMemory}

-- The least and the greatest number of first parts of a cache line that a crash may leave: the number of its durable
-- parts, and the number of all its parts.
abbrev pub bounds_in : Option (Line StorePart) → Bounds
bounds_in None = record { least = 0; most = 0 }
bounds_in (Some l) = record { least = l.durable; most = length l.parts }

-- The bounds of line j in a state; 0 and 0 where the region has no such line.
abbrev pub bounds_of : State → ℕ → Bounds
bounds_of s j = bounds_in (slice_get s.lines j)

-- The number of first parts that the first pick that names line j gives it, if one does.
abbrev pub number_for : List Pick → ℕ → Option ℕ
number_for [] j = None
number_for (p ∷ ps) j = cond (nat_eq p.line j) (Some p.upto) (number_for ps j)

-- The number that was picked, or the least one if none was.
abbrev pub number_or : ℕ → Option ℕ → ℕ
number_or least None = least
number_or least (Some upto) = upto

-- The number of parts that these picks give each line; a line that they do not name keeps its durable number of parts.
abbrev pub picked : State → List Pick → ℕ → ℕ
picked s picks j = number_or (bounds_of s j).least (number_for picks j)

-- How the number that a pick gives its line fails: it is outside the line's bounds.
abbrev pub range_failure : ℕ → Bounds → ℕ → Option PickRefusal
range_failure at bounds upto =
    cond (nat_le bounds.least upto && nat_le upto bounds.most) None (Some (OutOfRange at bounds.least bounds.most))

-- How a pick fails after earlier ones, given its number from 1: for a line outside the region, else for a line that an
-- earlier pick names, else for a number outside the line's bounds.
abbrev pub failure : State → List Pick → ℕ → Pick → Option PickRefusal
failure s earlier at p =
    cond (nat_lt p.line (length s.lines))
    (cond (is_some (number_for earlier p.line)) (Some (Repeated at)) (range_failure at (bounds_of s p.line) p.upto))
    (Some (NoLine at))

-- The first refusal or, if there is none, the later one.
abbrev pub first_of : Option PickRefusal → Option PickRefusal → Option PickRefusal
first_of None later = later
first_of (Some refusal) later = Some refusal

-- How the first failing pick after earlier ones fails, if one does.
abbrev pub failure_after : State → List Pick → List Pick → Option PickRefusal
failure_after s earlier [] = None
failure_after s earlier (p ∷ ps) =
    first_of (failure s earlier (suc (length earlier)) p) (failure_after s (earlier ++ p ∷ []) ps)

-- How the first failing pick fails, if one does.
abbrev pub first_failure : State → List Pick → Option PickRefusal
first_failure s picks = failure_after s [] picks

-- A refusal of picks in a state; out of memory may come at any time.
abbrev pub IsRefusal : State → List Pick → PickRefusal → Type 0
IsRefusal s picks refusal = (refusal ≡ NoMemory) ⊎ (first_failure s picks ≡ Some refusal)

-- The picks give a crash image of a state: there is one pick for each cache line, in ascending order, and none of them
-- fails.
pub record ArePicksOf (I : Input) (s : State) (picks : List Pick) (image : List ℕ) : Type 0 where
  pub lines : map (λ p. p.line) picks ≡ range_with_len 0 (length s.lines)
  pub fit : first_failure s picks ≡ None
  pub content : crash_image I s (picked s picks) ≡ image
  pub is : IsCrashImage I s image
