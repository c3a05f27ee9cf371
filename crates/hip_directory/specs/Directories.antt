-- The number that a directory has at a key, which is 0 until one is set.
use Rattle.std.specs.Prelude.{◌≡◌, ◌≢◌, ℕ, ◌/◌, ◌<◌, ◌≤◌, slice_index, Option, Some, None}
use Rattle.hip_directory.specs.declared.directory.Directory.{Directory}
use Rattle.hip_directory.specs.declared.TheConstants.{GROUP_SIZE}
use Rattle.hip_directory.specs.Tables.{number_in}

-- The number at key k, 0 where none was set.
unfoldable pub number_at : Directory → ℕ → ℕ
number_at d k = number_in d.groups.items d.entries.items k

-- The number of the group with the key's entry; 0, the group of zeros, until one is made for the key.
unfoldable pub group_of : Directory → ℕ → ℕ
group_of d k = slice_index d.groups.items (k / GROUP_SIZE)

-- Setting a number at the key takes no memory.
abbrev pub HasRoom : Directory → ℕ → Type 0
HasRoom d k = 0 < group_of d k

-- Each key that is at least `from` and below `to` has the number 0.
abbrev pub NoneSet : Directory → ℕ → ℕ → Type 0
NoneSet d from to = (j : ℕ) → from ≤ j → j < to → number_at d j ≡ 0

-- The first key, at least `from` and below `to`, that has a number other than 0; none if there is no such key.
abbrev pub IsFirstSet : Directory → ℕ → ℕ → Option ℕ → Type 0
IsFirstSet d from to None = NoneSet d from to
IsFirstSet d from to (Some k) = (from ≤ k) × (k < to) × (number_at d k ≢ 0) × NoneSet d from k
