-- A log that has come to an entry of a run's trace.
use Rattle.std.specs.Prelude.{ℕ, ◌≡◌}
use Rattle.hip_runs.specs.Entry.{IsAtEntry}
use Rattle.hip_runs.specs.Seen.{Seen}

-- The steps of the same run up to the first state with n entries are taken.
pub record ReachesEntry (old new : Seen) (entry : ℕ) : Type 0 where
  pub program : new.program ≡ old.program
  pub input : new.input ≡ old.input
  pub at : IsAtEntry old.program old.input entry new.taken
