-- A run that is recorded in memory, and what replaying its trace gives.
use Rattle.std.specs.Prelude.{ℕ, ◌≡◌, List, length}
use Rattle.hip_tree.specs.declared.program.Program.{Program}
use Rattle.hip_demo.specs.declared.replayed.Kept.{Kept}
use Rattle.hip_replay.specs.declared.compared.Replayed.{Replayed}
use Rattle.hip_run_traces.specs.Misfits.{IsTraceOf}
use Rattle.hip_run_traces.specs.Traces.{IsTrace}
use Rattle.hip_runs.specs.Found.Marks.{IsFound}
use Rattle.hip_runs.specs.declared.input.Input.{Input}
use Rattle.hip_trace.specs.Texts.{lines_of}
use Rattle.hip_trace.specs.declared.entry.Entry.{Entry}

-- The text is the trace of the run, and what the run found and how many entries it has is known.
pub record HasKept (P : Program) (I : Input) (kept : Kept) : Type 0 where
  pub trace : List Entry
  pub is_trace : IsTrace P I trace
  pub text_is : kept.text ≡ lines_of trace
  pub entries : kept.recorded.entries ≡ length trace
  pub found : IsFound P I kept.recorded.findings

-- The text is the trace of the run on this input, which found this.
pub record HasReplayedText (P : Program) (text : List ℕ) (replayed : Replayed) : Type 0 where
  pub traced : IsTraceOf P text replayed.input
  pub found : IsFound P replayed.input replayed.findings
  pub entries : replayed.entries ≡ length traced.trace

-- The run on the input was recorded and replayed, and found this.
pub record HasFoundAgain (P : Program) (I : Input) (replayed : Replayed) : Type 0 where
  pub input_is : replayed.input ≡ I
  pub found : IsFound P I replayed.findings
  pub trace : List Entry
  pub is_trace : IsTrace P I trace
  pub entries : replayed.entries ≡ length trace
