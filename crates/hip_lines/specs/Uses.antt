-- Which numbers of kept tags have a use.
use Rattle.std.specs.Prelude.{◌≡◌, ℕ, ◌+◌, ◌<◌, ◌≤◌, List, length, slice_index}
use Rattle.hip_directory.specs.Tables.{count_set}
use Rattle.hip_types.specs.declared.areas.TheConstants.{LINE_SIZE}

-- There is a place for each of 256 numbers, and no number is noted as used.
abbrev pub AreBlank : List ℕ → Type 0
AreBlank uses = (length uses ≡ 256) × (count_set uses ≡ 0)

-- The numbers of the first n bytes are noted as used. At most n numbers are newly noted.
pub record NumbersAreNoted (numbers : List ℕ) (n : ℕ) (old new : List ℕ) : Type 0 where
  pub size : length new ≡ length old
  pub bytes : (i : ℕ) → i < n → 0 < slice_index new (slice_index numbers i)
  pub few : count_set new ≤ count_set old + n

-- The used numbers include those of the bytes of a line, 0, `flushed` and `last`. There are at most three more than the
-- line has bytes.
pub record AreUses (numbers : List ℕ) (flushed last : ℕ) (uses : List ℕ) : Type 0 where
  pub size : length uses ≡ 256
  pub line : length numbers ≡ LINE_SIZE
  pub at_bytes : (i : ℕ) → i < length numbers → 0 < slice_index uses (slice_index numbers i)
  pub at_zero : 0 < slice_index uses 0
  pub at_flushed : 0 < slice_index uses flushed
  pub at_last : 0 < slice_index uses last
  pub few : count_set uses ≤ length numbers + 3
