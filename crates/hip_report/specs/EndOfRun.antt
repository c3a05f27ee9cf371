-- A machine at the end of its run, with all steps noted by a tracker.
use Rattle.std.specs.Prelude.{◌≡◌, true}
use Rattle.hip_report.specs.TrackerView.{HasNoted, Tracked}
use Rattle.hip_runs.specs.Step.{has_ended}
use Rattle.hip_runs.specs.Seen.{Seen, state_of}

-- The same run has ended, and all its steps were noted.
pub record IsOver (m m' : Seen) (t t' : Tracked) : Type 0 where
  pub program : m'.program ≡ m.program
  pub input : m'.input ≡ m.input
  pub ended : has_ended (state_of m') ≡ true
  pub noted : HasNoted t' m'
  pub header : t'.header ≡ t.header
  pub sought : t'.sought ≡ t.sought
