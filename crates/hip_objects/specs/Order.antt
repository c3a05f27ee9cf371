-- Items that follow one another in memory, each with its first byte and its size.
use Rattle.std.specs.Prelude.{ℕ, ◌+◌, ◌<◌, ◌≤◌, cond, List, [], ◌∷◌, Option, Some, None, length, slice_index_or}
use Rattle.hip_mem.specs.Memory.{range_contains}

-- Each item ends before a later one begins.
pub record AreInOrder {X : Type 0} (start size : X → ℕ) (xs : List X) : Type 0 where
  pub order : (i j : ℕ) (d : X) → i < j → j < length xs →
      start (slice_index_or xs i d) + size (slice_index_or xs i d) ≤ start (slice_index_or xs j d)

-- The first n items begin at or before an address, and the others begin after it.
pub record AreSplit {X : Type 0} (start : X → ℕ) (xs : List X) (a n : ℕ) : Type 0 where
  pub before : (i : ℕ) (d : X) → i < n → i < length xs → start (slice_index_or xs i d) ≤ a
  pub past : (i : ℕ) (d : X) → n ≤ i → i < length xs → a < start (slice_index_or xs i d)

-- What a function gives for the first item that has the byte at an address.
abbrev pub first_at : {X B : Type 0} → (X → ℕ) → (X → ℕ) → (X → B) → ℕ → List X → Option B
first_at start size stated a [] = None
first_at start size stated a (x ∷ xs) =
    cond (range_contains (start x) (size x) a) (Some (stated x)) (first_at start size stated a xs)
