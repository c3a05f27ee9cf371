-- Kept lines side by side, and the directory that gives each cache line's place among them.
use Rattle.std.specs.Prelude.{◌≡◌, ◌≢◌, ℕ, zero, suc, ◌≤◌, List, length, Option, Some, None, slice_get}
use Rattle.hip_directory.specs.declared.directory.Directory.{Directory}
use Rattle.hip_directory.specs.Directories.{number_at}
use Rattle.hip_crash.specs.Kept.{Kept, kept_in}
use Rattle.hip_crash.specs.declared.kept_line.KeptLine.{KeptLine}

-- The kept line at a place, counted from 1; none at 0.
abbrev pub at_place : List KeptLine → ℕ → Option KeptLine
at_place xs zero = None
at_place xs (suc n) = slice_get xs n

-- What is kept of cache line j, if something is.
abbrev pub line_in : Directory → List KeptLine → ℕ → Option KeptLine
line_in d xs j = at_place xs (number_at d j)

-- Each place that the directory gives is a place of a kept line, which has the number of its cache line.
pub record KeptLinesArePlaced (d : Directory) (xs : List KeptLine) : Type 0 where
  pub within : (j : ℕ) → number_at d j ≤ length xs
  pub numbered : (j : ℕ) (x : KeptLine) → line_in d xs j ≡ Some x → x.line ≡ j

-- What is kept at a place, counted from 0, is changed, and nothing else is.
pub record ChangesKeptPlace (change : Kept → Kept) (place : ℕ) (old new : List KeptLine) : Type 0 where
  pub others : (k : ℕ) → k ≢ place → slice_get new k ≡ slice_get old k
  pub count : length new ≡ length old
  pub here : (x : KeptLine) → slice_get old place ≡ Some x →
      (y : KeptLine) × (slice_get new place ≡ Some y) × (y.line ≡ x.line) × (kept_in y ≡ change (kept_in x))
