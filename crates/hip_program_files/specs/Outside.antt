-- What a call has met in its files.
use Rattle.std.specs.Prelude.{ℕ, ◌+◌, ◌-◌, ◌^◌, ◌≡◌, ◌≤◌, ◌⊎◌, min, Bool, true, false}
use Rattle.hip_io.specs.Cabinets.{CabinetState}
use Rattle.hip_io.specs.Counts.{Rose}

-- A count rose in the call, or it is the same.
abbrev pub CountsUp : Bool → ℕ → ℕ → Type 0
CountsUp true old new = (old ≤ new) × Rose old new
CountsUp false old new = new ≡ old

-- No file has changed. The count of misses rose exactly if a file was missing, and the count of faults exactly if a
-- file could not be read.
pub record HasMet (missed failed : Bool) (old new : CabinetState) : Type 0 where
  pub files : new.files ≡ old.files
  pub misses : CountsUp missed old.misses new.misses
  pub faults : CountsUp failed old.faults new.faults

-- The call made exactly n fetches. A count that has reached its greatest value stays there.
pub record CountsFetches (n : ℕ) (old new : CabinetState) : Type 0 where
  pub count : new.fetches ≡ min (old.fetches + n) (2 ^ 64 - 1)

-- The call made exactly n fetches; where that is none, the count is as it was.
abbrev pub MakesFetches : ℕ → CabinetState → CabinetState → Type 0
MakesFetches n old new = ((n ≡ 0) × (new.fetches ≡ old.fetches)) ⊎ CountsFetches n old new
