-- A table of two levels: for each group of keys the place of its entries, and the entries, group by group.
use Rattle.std.specs.Prelude.{◌≡◌, ◌≢◌, ℕ, zero, suc, ◌+◌, ◌*◌, ◌/◌, ◌%◌, ◌<◌, ◌≤◌, List, [], ◌∷◌, length, slice_index}
use Rattle.hip_directory.specs.declared.TheConstants.{GROUP_SIZE}

-- The entry of a key. The first group, of zeros, has the entries of all keys whose group is not made.
unfoldable pub number_in : List ℕ → List ℕ → ℕ → ℕ
number_in groups entries k = slice_index entries (GROUP_SIZE * slice_index groups (k / GROUP_SIZE) + k % GROUP_SIZE)

-- The entries are whole groups; the first group is zeros, and each other group belongs to at most one group of keys.
pub record IsDirectoryTable (groups entries : List ℕ) : Type 0 where
  pub whole : length entries % GROUP_SIZE ≡ 0
  pub within : (i : ℕ) → GROUP_SIZE * slice_index groups i + GROUP_SIZE ≤ length entries
  pub first : (i : ℕ) → i < GROUP_SIZE → slice_index entries i ≡ 0
  pub apart : (i j : ℕ) → i ≢ j → slice_index groups i ≢ 0 → slice_index groups i ≢ slice_index groups j

-- 1 for each number other than 0, and 0 for 0.
abbrev pub set_once : ℕ → ℕ
set_once zero = 0
set_once (suc n) = 1

-- How many numbers of a list are not 0.
abbrev pub count_set : List ℕ → ℕ
count_set [] = 0
count_set (x ∷ xs) = set_once x + count_set xs
