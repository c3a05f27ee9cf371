-- The answers of `many`.
use Rattle.std.specs.Prelude.{ℕ, ◌+◌, ◌≡◌, ◌⊎◌, false, true, List, length}
use Rattle.std.specs.List.{All}
use Rattle.hip_answers.specs.Answers.{Answer, refusal}
use Rattle.hip_answers.specs.Programs.{IsUnloaded, IsUnread}
use Rattle.hip_answers.specs.declared.status.FileRole.TheVariants as roles
use Rattle.hip_answers.specs.declared.status.Status.{Status}
use Rattle.hip_answers.specs.declared.status.Status.TheVariants as statuses
use Rattle.hip_io.specs.Cabinets.{CabinetState}
use Rattle.hip_grammar.specs.Show.{show}
use Rattle.hip_tree.specs.declared.program.Program.{Program}
use Rattle.hip_program_files.specs.LoadedPrograms.{IsProgramOf}
use Rattle.hip_program_files.specs.Outside.{CountsFetches, HasMet}
use Rattle.hip_many.specs.Reasons.{reasons}
use Rattle.hip_many.specs.Union.{IsUnion}
use Rattle.hip_command_io.specs.Notes.{many_notes}
use Rattle.hip_repair_commands.specs.ManyRuns.{AreRunsOf, IsAfterRuns, TracedRun, plans_of, reports_of}
use Rattle.hip_repair_answers.specs.Cured.{IsCuredBy}
use Rattle.hip_answers.specs.TraceFiles.{FailsToRead, HasNoTrace, is_missing}
use Rattle.hip_answers.specs.declared.refusal.TraceFileRefusal.{TraceFileRefusal}
use Rattle.hip_answers.specs.declared.refusal.TraceFileRefusal.TheVariants as traces
use Rattle.hip_repairs.specs.CloneNumbers.{clone_numbers}
use Rattle.hip_repairs.specs.Direct.{direct}
use Rattle.hip_repairs.specs.Repaired.{repaired}
use Rattle.hip_repairs.specs.declared.plan.Plan.{Plan}

-- ---- a file that is not the trace of a run

-- The status of a refusal of the trace of that number.
abbrev pub status_in : ℕ → TraceFileRefusal → Status
status_in number traces.Missing = statuses.Missing (roles.Number number)
status_in number (traces.Misfit entry kind) = statuses.MisfitIn number entry kind

-- The program is there, and this is the first of the files, in order, that is not the trace of a run of it. The answer
-- names the file by its number and says why it is no such trace.
pub record IsUntracedIn (old new : CabinetState) (program_name : List ℕ) (names : List (List ℕ)) (answer : Answer) :
    Type 0 where
  pub program : Program
  pub loaded : IsProgramOf old.files program_name program
  pub number : ℕ
  pub name : List ℕ
  pub follows : IsAfterRuns old.files program names number name
  pub why : TraceFileRefusal
  pub met : HasMet (is_missing why) false old new
  pub cause : HasNoTrace old.files name program why
  pub is : answer ≡ refusal (status_in number why)

-- The program is there, all files before this one are traces of runs of it, and this one could not be fetched, or could
-- not be read to its end. The program and the traces up to this one were fetched once each, so the bytes of the trace
-- that were taken are those of one reading.
pub record IsUnreadIn (old new : CabinetState) (program_name : List ℕ) (names : List (List ℕ)) (answer : Answer) :
    Type 0 where
  pub program : Program
  pub loaded : IsProgramOf old.files program_name program
  pub number : ℕ
  pub name : List ℕ
  pub follows : IsAfterRuns old.files program names number name
  pub met : HasMet false true old new
  pub fetches : CountsFetches (1 + number) old new
  pub unread : FailsToRead old.files name program new
  pub is : answer ≡ refusal statuses.ReadFault

-- ---- one repair for all

-- Out has the canonical text of the program that is repaired by the union of the runs' plans; its direct stores get no
-- flush by cloning. Notes has the numbers of traces, reports, flushes, fences, hoisted calls and clones, and for each
-- site of the union how many plans have it. The repaired program does no harm, is clean on the input of each run and
-- has its hoisted calls covered.
pub record HasRepairedMany (P : Program) (runs : List TracedRun) (answer : Answer) : Type 0 where
  pub plan : Plan
  pub union : IsUnion (plans_of P runs) plan
  pub status_is : answer.status ≡ statuses.Done
  pub out_is : answer.out ≡ show (repaired P plan (direct P))
  pub notes_is : answer.notes ≡ many_notes P (length runs) (reports_of runs) plan (length (clone_numbers P plan))
      (reasons (plans_of P runs) plan)
  pub cured : All (λ r. IsCuredBy P r.input plan (direct P)) runs

-- One file has the program, and the others are the traces of runs of it.
pub record HasRunsOf (old new : CabinetState) (program_name : List ℕ) (names : List (List ℕ))
    (answer : Answer) : Type 0
  where
    pub program : Program
    pub loaded : IsProgramOf old.files program_name program
    pub runs : List TracedRun
    pub are : AreRunsOf old.files program names runs
    pub met : HasMet false false old new
    pub texts : HasRepairedMany program runs answer

-- The answers of `many`: there is no program; a file is not the trace of a run, or could not be read; or there is one
-- repair for all runs.
abbrev pub ManyAnswers : CabinetState → CabinetState → List ℕ → List (List ℕ) → Answer → Type 0
ManyAnswers old new program_name names answer =
    IsUnloaded old new program_name answer
    ⊎ (IsUnread old new program_name answer
    ⊎ (IsUntracedIn old new program_name names answer
    ⊎ (IsUnreadIn old new program_name names answer ⊎ HasRunsOf old new program_name names answer)))
