-- What is kept of the cache lines into which something was stored, by their numbers.
use Rattle.std.specs.Prelude.{◌≡◌, ◌≢◌, ℕ, ◌<◌, ◌≤◌, Bool, true, false, ◌&&◌, nat_eq, not, List, length, Option, Some, None, option_map}
use Rattle.std.specs.List.{list_any}
use Rattle.hip_crash.specs.Kept.{Kept, kept_in}
use Rattle.hip_crash.specs.Places.{line_in}
use Rattle.hip_crash.specs.declared.kept_line.KeptLine.{KeptLine}
use Rattle.hip_crash.specs.declared.kept_lines.KeptLines.{KeptLines}

-- The kept line of cache line j, with its number; none where nothing is kept of that line.
unfoldable pub line_at : KeptLines → ℕ → Option KeptLine
line_at m j = line_in m.directory m.lines.items j

-- What is kept of cache line j, if something is.
abbrev pub kept_at : KeptLines → ℕ → Option Kept
kept_at m j = option_map kept_in (line_at m j)

-- What is kept of one cache line is changed, and nothing else is.
pub record ChangesKeptLine (change : Kept → Kept) (line : ℕ) (old new : KeptLines) : Type 0 where
  pub here : kept_at new line ≡ option_map change (kept_at old line)
  pub others : (j : ℕ) → j ≢ line → kept_at new j ≡ kept_at old j

-- This is what the new lines keep of one cache line, and nothing else is changed.
pub record GivesLine (kept : Kept) (line : ℕ) (old new : KeptLines) : Type 0 where
  pub here : kept_at new line ≡ Some kept
  pub others : (j : ℕ) → j ≢ line → kept_at new j ≡ kept_at old j

-- Nothing is kept of the cache lines from the first of two numbers on and before the second.
abbrev pub NoneKept : KeptLines → ℕ → ℕ → Type 0
NoneKept m from to = (j : ℕ) → from ≤ j → j < to → line_at m j ≡ None

-- The first cache line of which something is kept, from the first of two numbers on and before the second, if there is
-- one.
abbrev pub IsFirstKept : KeptLines → ℕ → ℕ → Option KeptLine → Type 0
IsFirstKept m from to None = NoneKept m from to
IsFirstKept m from to (Some x) =
    (line_at m x.line ≡ Some x) × (from ≤ x.line) × (x.line < to) × NoneKept m from x.line

-- The number of flushed stores.
abbrev pub flushed_in : Option Kept → ℕ
flushed_in None = 0
flushed_in (Some k) = k.flushed

-- The list has each line that holds flushed stores.
abbrev pub AreListed : List ℕ → KeptLines → Type 0
AreListed lines m = (j : ℕ) → 0 < flushed_in (kept_at m j) → list_any (nat_eq j) lines ≡ true

-- Whether there are stores of which none is flushed.
abbrev pub is_unflushed : Option Kept → Bool
is_unflushed None = false
is_unflushed (Some k) = nat_eq k.flushed 0 && not (nat_eq (length k.later) 0)
