-- The answer of a command that writes the trace of a run.
use Rattle.std.specs.Prelude.{◌≡◌}
use Rattle.hip_answers.specs.Answers.{Answer}
use Rattle.hip_answers.specs.Endings.{ending_line, status_of_ending}
use Rattle.hip_run_traces.specs.TraceTexts.{IsTraceText}
use Rattle.hip_tree.specs.declared.program.Program.{Program}
use Rattle.hip_runs.specs.declared.event.Ending.{Ending}
use Rattle.hip_runs.specs.declared.input.Input.{Input}

-- Out has the trace of the program's run on the input, a line for each entry, and notes how the run has ended.
pub record GivesTrace (P : Program) (I : Input) (answer : Answer) : Type 0 where
  pub ending : Ending
  pub traced : IsTraceText P I answer.out ending
  pub status_is : answer.status ≡ status_of_ending ending
  pub notes_is : answer.notes ≡ ending_line ending
