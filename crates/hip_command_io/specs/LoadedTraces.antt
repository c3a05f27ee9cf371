-- What loading the trace of a file answers.
use Rattle.std.specs.Prelude.{ℕ, ◌≡◌, true, false, List, [], length, Some, IfSome, Result, Ok, Err}
use Rattle.hip_io.specs.Cabinets.{CabinetState}
use Rattle.hip_tree.specs.declared.program.Program.{Program}
use Rattle.hip_program_files.specs.Outside.{CountsFetches, HasMet}
use Rattle.hip_program_files.specs.declared.failure.Failure.{Failure}
use Rattle.hip_program_files.specs.declared.failure.Failure.TheVariants as failures
use Rattle.hip_lockstep.specs.declared.refusal.ReplayRefusal.{ReplayRefusal}
use Rattle.hip_lockstep.specs.declared.refusal.ReplayRefusal.TheVariants as refusals
use Rattle.hip_answers.specs.TraceFiles.{FailsToRead, HasNoTrace, IsTraceFile, is_missing}
use Rattle.hip_answers.specs.declared.refusal.TraceFileRefusal.{TraceFileRefusal}
use Rattle.hip_answers.specs.declared.refusal.TraceFileRefusal.TheVariants as traces
use Rattle.hip_ledger.specs.SoughtFindings.{Finds}
use Rattle.hip_ledger.specs.declared.sought.Sought.{Sought}
use Rattle.hip_replay.specs.declared.compared.Replayed.{Replayed}
use Rattle.hip_run_traces.specs.Traces.{IsTrace}
use Rattle.hip_runs.specs.Step.{run}
use Rattle.hip_runs.specs.Validity.{IsValid}
use Rattle.hip_trace.specs.declared.entry.Entry.{Entry}

-- A refusal of the replay, as a refusal of the file.
abbrev pub failure_of : ReplayRefusal → Failure TraceFileRefusal
failure_of (refusals.Misfit entry kind) = failures.Refused (traces.Misfit entry kind)
failure_of refusals.ReadFault = failures.ReadFault
failure_of refusals.NoMemory = failures.NoMemory

-- The file is the trace of the program's run on the input, and was read to its end. The findings that are sought, the
-- ending and the number of entries are those of that run. No file was missing and no read failed.
pub record HasLoadedTrace (P : Program) (sought : Sought) (name : List ℕ) (old new : CabinetState)
    (replayed : Replayed) : Type 0 where
  pub met : HasMet false false old new
  pub traced : IfSome old.files (λ fs. IsTraceFile fs name P replayed.input)
  pub left : IfSome new.rest (λ rest. rest ≡ [])
  pub valid : IsValid P replayed.input
  pub found : Finds sought P replayed.input replayed.findings
  pub trace : List Entry
  pub is_trace : IsTrace P replayed.input trace
  pub ended : (run P replayed.input is_trace.steps).world.ending ≡ Some replayed.ending
  pub entries : replayed.entries ≡ length trace

-- The file could not be fetched, or could not be read to its end.
pub record HasFailedTrace (P : Program) (name : List ℕ) (old new : CabinetState) : Type 0 where
  pub met : HasMet false true old new
  pub fetches : CountsFetches 1 old new
  pub unread : FailsToRead old.files name P new

-- What loading the trace of a file answers: one file is fetched; out of memory may come anywhere.
abbrev pub LoadsTrace : Program → Sought → List ℕ → CabinetState → CabinetState
    → Result Replayed (Failure TraceFileRefusal) → Type 0
LoadsTrace P sought name old new (Ok replayed) = HasLoadedTrace P sought name old new replayed × CountsFetches 1 old new
LoadsTrace P sought name old new (Err (failures.Refused why)) =
    HasMet (is_missing why) false old new × HasNoTrace old.files name P why
LoadsTrace P sought name old new (Err failures.ReadFault) = HasFailedTrace P name old new
LoadsTrace P sought name old new (Err failures.NoMemory) = HasMet false false old new
