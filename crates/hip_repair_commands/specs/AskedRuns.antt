-- The runs of a program that are loaded from files, and the plans and reports that they give.
use Rattle.std.specs.Prelude.{ℕ, ◌≡◌, ◌≤◌, false, List, length, Option, Some, None, IfSome, Result, Ok, Err, true}
use Rattle.hip_answers.specs.declared.status.Status.{Status}
use Rattle.hip_answers.specs.declared.status.Status.TheVariants as statuses
use Rattle.hip_io.specs.Cabinets.{CabinetState}
use Rattle.hip_tree.specs.declared.program.Program.{Program}
use Rattle.hip_program_files.specs.Outside.{CountsFetches, HasMet, MakesFetches}
use Rattle.hip_program_files.specs.declared.failure.Failure.{Failure}
use Rattle.hip_program_files.specs.declared.failure.Failure.TheVariants as failures
use Rattle.hip_repair_commands.specs.Many.{status_in}
use Rattle.hip_repair_commands.specs.ManyRuns.{AreRunsOf, IsAfterRuns, IsRunOf, TracedRun, plans_of, reports_of}
use Rattle.hip_repair_commands.specs.declared.many_runs.AllAsked.{AllAsked}
use Rattle.hip_repair_commands.specs.declared.many_runs.Asked.{Asked}
use Rattle.hip_repair_commands.specs.declared.numbered_refusal.NumberedRefusal.{NumberedRefusal}
use Rattle.hip_answers.specs.TraceFiles.{FailsToRead, HasNoTrace, is_missing}
use Rattle.hip_answers.specs.declared.refusal.TraceFileRefusal.{TraceFileRefusal}
use Rattle.hip_repairs.specs.Choice.{plan_for}
use Rattle.hip_command_io.specs.LoadedTraces.{HasFailedTrace}

-- ---- one trace

-- The file of that name is the trace of the run, and this is the plan for it and how many reports it has.
pub record HasAsked (P : Program) (name : List ℕ) (old new : CabinetState) (asked : Asked) : Type 0 where
  pub run : TracedRun
  pub named : run.name ≡ name
  pub is : IsRunOf old.files P run
  pub met : HasMet false false old new
  pub fetches : CountsFetches 1 old new
  pub plan_is : asked.plan ≡ plan_for P run.found
  pub reports_are : asked.reports ≡ length run.found.reports

-- What loading a trace and planning for its run answers; out of memory may come anywhere.
abbrev pub Asks : Program → List ℕ → CabinetState → CabinetState → Result Asked (Failure TraceFileRefusal)
    → Type 0
Asks P name old new (Ok asked) = HasAsked P name old new asked
Asks P name old new (Err (failures.Refused why)) =
    HasMet (is_missing why) false old new × HasNoTrace old.files name P why
Asks P name old new (Err failures.ReadFault) = HasFailedTrace P name old new
Asks P name old new (Err failures.NoMemory) = HasMet false false old new

-- ---- all traces

-- The plans for runs, and how many reports these have together.
pub record AreAsked (P : Program) (runs : List TracedRun) (asked : AllAsked) : Type 0 where
  pub plans_are : asked.plans ≡ plans_of P runs
  pub reports_are : asked.reports ≡ reports_of runs

-- The files of these names are the traces of runs, and these are their plans and the number of their reports.
pub record HasAskedAll (P : Program) (names : List (List ℕ)) (old new : CabinetState)
    (asked : AllAsked) : Type 0 where
  pub runs : List TracedRun
  pub are : AreRunsOf old.files P names runs
  pub met : HasMet false false old new
  pub asked_are : AreAsked P runs asked

-- The file of this number is the first that is not the trace of a run, for this reason.
pub record LacksTraceIn (P : Program) (names : List (List ℕ)) (old new : CabinetState) (refusal : NumberedRefusal) :
    Type 0 where
  pub name : List ℕ
  pub follows : IsAfterRuns old.files P names refusal.number name
  pub met : HasMet (is_missing refusal.why) false old new
  pub cause : HasNoTrace old.files name P refusal.why

-- The file of this number could not be fetched, or could not be read to its end. All files before it are traces of
-- runs.
pub record HasFailedIn (P : Program) (names : List (List ℕ)) (old new : CabinetState) : Type 0 where
  pub number : ℕ
  pub name : List ℕ
  pub follows : IsAfterRuns old.files P names number name
  pub met : HasMet false true old new
  pub fetches : CountsFetches number old new
  pub unread : FailsToRead old.files name P new

-- What loading all traces and planning for their runs answers; out of memory may come anywhere.
abbrev pub AsksAll : Program → List (List ℕ) → CabinetState → CabinetState
    → Result AllAsked (Failure NumberedRefusal) → Type 0
AsksAll P names old new (Ok asked) = HasAskedAll P names old new asked
AsksAll P names old new (Err (failures.Refused refusal)) = LacksTraceIn P names old new refusal
AsksAll P names old new (Err failures.ReadFault) = HasFailedIn P names old new
AsksAll P names old new (Err failures.NoMemory) = HasMet false false old new

-- ---- fetches

-- The number of traces that were fetched: all of them; or up to the one that is refused. None after a read fault and
-- out of memory, which may come at each of them.
abbrev pub fetches_of : ℕ → Result AllAsked (Failure NumberedRefusal) → Option ℕ
fetches_of all (Ok asked) = Some all
fetches_of all (Err (failures.Refused refusal)) = Some refusal.number
fetches_of all (Err failures.ReadFault) = None
fetches_of all (Err failures.NoMemory) = None

-- Of `all` traces at most so many were fetched, each once, and exactly as many as the result says.
pub record FetchesTraces (all : ℕ) (result : Result AllAsked (Failure NumberedRefusal)) (old new : CabinetState) :
    Type 0 where
  pub count : ℕ
  pub made : MakesFetches count old new
  pub few : count ≤ all
  pub exact : IfSome (fetches_of all result) (λ n. count ≡ n)

-- ---- refusals

-- A refusal of the trace of that number.
abbrev pub numbered : ℕ → Failure TraceFileRefusal → Failure NumberedRefusal
numbered number (failures.Refused why) = failures.Refused (record { number = number; why = why })
numbered number failures.ReadFault = failures.ReadFault
numbered number failures.NoMemory = failures.NoMemory

-- The status if not every trace is loaded: why the first such trace is refused, a read fault, or out of memory.
abbrev pub status_of_traces : Failure NumberedRefusal → Status
status_of_traces (failures.Refused refusal) = status_in refusal.number refusal.why
status_of_traces failures.ReadFault = statuses.ReadFault
status_of_traces failures.NoMemory = statuses.NoMemory
