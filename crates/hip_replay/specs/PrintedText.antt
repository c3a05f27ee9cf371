-- What a run prints, as it is written to a sink.
use Rattle.std.specs.Prelude.{◌≡◌, ℕ, List, ◌++◌, Some, Result, Ok, Err}
use Rattle.hip_tree.specs.declared.program.Program.{Program}
use Rattle.hip_io.specs.Sinks.{SinkState, AppendsAll, AppendsPrefix}
use Rattle.hip_runs.specs.Step.{run}
use Rattle.hip_runs.specs.declared.event.Ending.{Ending}
use Rattle.hip_runs.specs.declared.input.Input.{Input}
use Rattle.hip_replay.specs.declared.refusal.RecordRefusal.{RecordRefusal}
use Rattle.hip_replay.specs.declared.refusal.RecordRefusal.TheVariants as refusals

-- The text is all that the run prints, and the run ends in this way.
pub record IsPrinted (P : Program) (I : Input) (text : List ℕ) (ending : Ending) : Type 0 where
  pub steps : ℕ
  pub ended : (run P I steps).world.ending ≡ Some ending
  pub is : text ≡ (run P I steps).world.output

-- All that the run prints is written, and the answer is its ending.
pub record HasPrinted (P : Program) (I : Input) (old new : SinkState) (ending : Ending) : Type 0 where
  pub text : List ℕ
  pub printed : IsPrinted P I text ending
  pub written : AppendsAll old new text

-- A write has failed, and out has a prefix of the run's text.
pub record PrintHasFailed (P : Program) (I : Input) (old new : SinkState) : Type 0 where
  pub text : List ℕ
  pub ending : Ending
  pub printed : IsPrinted P I text ending
  pub written : AppendsPrefix old new text

-- Out of memory; no write has failed, and out has a prefix of the run's text.
pub record PrintHasStopped (P : Program) (I : Input) (old new : SinkState) : Type 0 where
  pub front : List ℕ
  pub missing : List ℕ
  pub ending : Ending
  pub printed : IsPrinted P I (front ++ missing) ending
  pub written : AppendsAll old new front

-- What is written, by the answer.
abbrev pub Prints : Program → Input → SinkState → SinkState → Result Ending RecordRefusal → Type 0
Prints P I old new (Ok ending) = HasPrinted P I old new ending
Prints P I old new (Err refusals.WriteFault) = PrintHasFailed P I old new
Prints P I old new (Err refusals.NoMemory) = PrintHasStopped P I old new
