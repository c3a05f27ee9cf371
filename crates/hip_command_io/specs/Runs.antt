-- What loading a program and the trace of one of its runs answers.
use Rattle.std.specs.Prelude.{ℕ, ◌⊎◌, Bool, List, Result, Ok, Err}
use Rattle.hip_answers.specs.Answers.{Answer}
use Rattle.hip_answers.specs.Fetches.{FetchesFiles}
use Rattle.hip_answers.specs.Programs.{IsUnloaded, IsUnread}
use Rattle.hip_answers.specs.declared.status.Status.{Status}
use Rattle.hip_io.specs.Cabinets.{CabinetState}
use Rattle.hip_io.specs.Sinks.{SinkState}
use Rattle.hip_program_files.specs.LoadedPrograms.{IsProgramOf}
use Rattle.hip_program_files.specs.Outside.{CountsFetches}
use Rattle.hip_answers.specs.TraceFiles.{LacksTrace}
use Rattle.hip_command_io.specs.LoadedTraces.{HasLoadedTrace}
use Rattle.hip_command_io.specs.Results.{GivesResult}
use Rattle.hip_ledger.specs.declared.sought.Sought.{Sought}
use Rattle.hip_command_io.specs.declared.run.LoadedRun.{LoadedRun}

-- One file has the program, and the other is the trace of the run; of its findings those that are sought are known.
pub record HasLoadedRun (program_name trace_name : List ℕ) (sought : Sought) (old new : CabinetState)
    (loaded : LoadedRun) : Type 0 where
  pub program : IsProgramOf old.files program_name loaded.checked
  pub trace : HasLoadedTrace loaded.checked sought trace_name old new loaded.replayed

-- What a command answers without a program, or without a trace of a run of it.
abbrev pub LacksRun : CabinetState → CabinetState → List ℕ → List ℕ → Answer → Type 0
LacksRun old new program_name trace_name answer =
    IsUnloaded old new program_name answer
    ⊎ (IsUnread old new program_name answer ⊎ LacksTrace old new program_name trace_name answer)

-- What loading a run answers. A refusal is the whole result of the command, whatever out is, and whether or not the
-- command writes its text before the whole text is made.
abbrev pub LoadsRun : List ℕ → List ℕ → Sought → CabinetState → CabinetState → Result LoadedRun Status → Type 0
LoadsRun program_name trace_name sought old new (Ok loaded) =
    HasLoadedRun program_name trace_name sought old new loaded
LoadsRun program_name trace_name sought old new (Err status) =
    (begins : Bool) → (out : SinkState)
    → GivesResult (LacksRun old new program_name trace_name) begins old new out out (Err status)

-- What loading a run fetches: both files, or as many as the status of the refusal says.
abbrev pub FetchesRun : Result LoadedRun Status → CabinetState → CabinetState → Type 0
FetchesRun (Ok loaded) old new = CountsFetches 2 old new
FetchesRun (Err status) old new = FetchesFiles 2 status old new
