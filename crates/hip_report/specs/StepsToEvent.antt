-- Steps that a tracker takes up to an event.
use Rattle.std.specs.Prelude.{◌≡◌, ◌⊎◌}
use Rattle.hip_runs.specs.Seen.{Seen, after_step}
use Rattle.hip_runner.specs.Quiet.{GoesQuietly}

-- The run takes some steps without an event, and perhaps one more step of any kind.
pub record StopsShort (old new : Seen) : Type 0 where
  pub before : Seen
  pub quiet : GoesQuietly old before
  pub is : (new ≡ before) ⊎ (new ≡ after_step before)
