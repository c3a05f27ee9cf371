-- Traces in files, and why there is none.
use Rattle.std.specs.Prelude.{ℕ, ◌≡◌, ◌⊎◌, Bool, true, false, List, ◌++◌, Option, Some, None, IfSome}
use Rattle.hip_answers.specs.Answers.{Answer, refusal}
use Rattle.hip_answers.specs.declared.status.FileRole.TheVariants as roles
use Rattle.hip_answers.specs.declared.status.Status.{Status}
use Rattle.hip_answers.specs.declared.status.Status.TheVariants as statuses
use Rattle.hip_io.specs.Cabinets.{CabinetState, file_of}
use Rattle.hip_io.specs.declared.cabinet.NamedFile.{NamedFile}
use Rattle.hip_tree.specs.declared.program.Program.{Program}
use Rattle.hip_program_files.specs.LoadedPrograms.{IsCurrent, IsProgramOf}
use Rattle.hip_program_files.specs.Outside.{CountsFetches, HasMet}
use Rattle.hip_program_files.specs.declared.failure.Failure.{Failure}
use Rattle.hip_program_files.specs.declared.failure.Failure.TheVariants as failures
use Rattle.hip_answers.specs.declared.refusal.TraceFileRefusal.{TraceFileRefusal}
use Rattle.hip_answers.specs.declared.refusal.TraceFileRefusal.TheVariants as traces
use Rattle.hip_run_traces.specs.Misfits.{IsMisfit, IsTraceOf}
use Rattle.hip_run_traces.specs.declared.misfit.MisfitKind.{MisfitKind}
use Rattle.hip_runs.specs.declared.input.Input.{Input}

-- ---- files

-- The file is the trace of the program's run on the input.
pub record IsTraceFile (files : List NamedFile) (name : List ℕ) (P : Program) (I : Input) : Type 0 where
  pub bytes : List ℕ
  pub found : file_of files name ≡ Some bytes
  pub trace : IsTraceOf P bytes I

-- The file has this misfit.
pub record IsMisfitFile (files : List NamedFile) (name : List ℕ) (P : Program) (entry : ℕ) (kind : MisfitKind) :
    Type 0 where
  pub bytes : List ℕ
  pub found : file_of files name ≡ Some bytes
  pub misfit : IsMisfit P bytes true entry kind

-- Some bytes of the file were taken, and the rest is left. The taken bytes show no misfit, whatever follows them.
pub record ShowsNoMisfit (files : List NamedFile) (name : List ℕ) (P : Program)
    (rest : Option (List ℕ)) : Type 0 where
  pub taken : List ℕ
  pub left : List ℕ
  pub found : file_of files name ≡ Some (taken ++ left)
  pub rest_is : rest ≡ Some left
  pub none : (entry : ℕ) → (kind : MisfitKind) → IsMisfit P taken false entry kind → ⊥

-- The file is the current one, and some of it was taken. The taken bytes show no misfit, since a misfit is answered as
-- soon as they show it.
pub record IsReadInPart (files : Option (List NamedFile)) (name : List ℕ) (P : Program) (new : CabinetState) : Type 0
  where
    pub is : IsCurrent name new
    pub taken : IfSome files (λ fs. ShowsNoMisfit fs name P new.rest)

-- The trace could not be fetched, and no file is current; or a read of it failed.
abbrev pub FailsToRead : Option (List NamedFile) → List ℕ → Program → CabinetState → Type 0
FailsToRead files name P new = (new.is_current ≡ false) ⊎ IsReadInPart files name P new

-- ---- refusals

-- Why the file is no trace of a run of the program.
abbrev pub HasNoTrace : Option (List NamedFile) → List ℕ → Program → TraceFileRefusal → Type 0
HasNoTrace files name P traces.Missing = IfSome files (λ fs. file_of fs name ≡ None)
HasNoTrace files name P (traces.Misfit entry kind) = IfSome files (λ fs. IsMisfitFile fs name P entry kind)

-- Whether the refusal is that no file has the name of the trace.
abbrev pub is_missing : TraceFileRefusal → Bool
is_missing traces.Missing = true
is_missing (traces.Misfit entry kind) = false

-- The status that says why the only trace of a command is not the trace of a run.
abbrev pub status_of_refusal : TraceFileRefusal → Status
status_of_refusal traces.Missing = statuses.Missing roles.Trace
status_of_refusal (traces.Misfit entry kind) = statuses.Misfit entry kind

-- The status of a trace that is not loaded: why it is refused, a read fault, or out of memory.
abbrev pub status_of_trace : Failure TraceFileRefusal → Status
status_of_trace (failures.Refused why) = status_of_refusal why
status_of_trace failures.ReadFault = statuses.ReadFault
status_of_trace failures.NoMemory = statuses.NoMemory

-- ---- answers

-- The program is there, and the file is not the trace of a run of it; the answer says why.
pub record IsUntraced (old new : CabinetState) (program_name trace_name : List ℕ) (answer : Answer) : Type 0 where
  pub program : Program
  pub loaded : IsProgramOf old.files program_name program
  pub why : TraceFileRefusal
  pub met : HasMet (is_missing why) false old new
  pub cause : HasNoTrace old.files trace_name program why
  pub is : answer ≡ refusal (status_of_refusal why)

-- The program is there, and the trace could not be fetched, or could not be read to its end. The program and the trace
-- were fetched once each, so the bytes of the trace that were taken are those of one reading.
pub record IsTraceUnread (old new : CabinetState) (program_name trace_name : List ℕ) (answer : Answer) : Type 0 where
  pub program : Program
  pub loaded : IsProgramOf old.files program_name program
  pub met : HasMet false true old new
  pub fetches : CountsFetches 2 old new
  pub unread : FailsToRead old.files trace_name program new
  pub is : answer ≡ refusal statuses.ReadFault

-- What a command answers that has a program but no trace of a run of it.
abbrev pub LacksTrace : CabinetState → CabinetState → List ℕ → List ℕ → Answer → Type 0
LacksTrace old new program_name trace_name answer =
    IsUntraced old new program_name trace_name answer ⊎ IsTraceUnread old new program_name trace_name answer
