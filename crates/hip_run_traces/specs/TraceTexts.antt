-- The text of a run's trace.
use Rattle.std.specs.Prelude.{ℕ, ◌≡◌, List, Some}
use Rattle.hip_tree.specs.declared.program.Program.{Program}
use Rattle.hip_run_traces.specs.Traces.{IsTrace}
use Rattle.hip_runs.specs.Step.{run}
use Rattle.hip_runs.specs.declared.event.Ending.{Ending}
use Rattle.hip_runs.specs.declared.input.Input.{Input}
use Rattle.hip_trace.specs.Texts.{lines_of}
use Rattle.hip_trace.specs.declared.entry.Entry.{Entry}

-- The text is the trace of the run, a line for each entry, and the run has ended in this way.
pub record IsTraceText (P : Program) (I : Input) (text : List ℕ) (ending : Ending) : Type 0 where
  pub trace : List Entry
  pub is_trace : IsTrace P I trace
  pub ended : (run P I is_trace.steps).world.ending ≡ Some ending
  pub is : text ≡ lines_of trace
