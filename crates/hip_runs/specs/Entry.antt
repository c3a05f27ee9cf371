-- The state that the run is in at an entry of its trace.
use Rattle.std.specs.Prelude.{ℕ, ◌<◌, ◌≤◌}
use Rattle.hip_tree.specs.declared.program.Program.{Program}
use Rattle.hip_runs.specs.declared.input.Input.{Input}
use Rattle.hip_runs.specs.Step.{run}

-- n is the least number of steps after which the trace has at least `entry` entries, counted with those of the header.
pub record IsAtEntry (P : Program) (I : Input) (entry n : ℕ) : Type 0 where
  pub enough : entry ≤ (run P I n).counts.entries
  pub least : (k : ℕ) → k < n → (run P I k).counts.entries < entry
