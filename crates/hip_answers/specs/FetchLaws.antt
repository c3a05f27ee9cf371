-- How many files a call fetches, by how far it comes.
use Rattle.std.proofs.Common.{◌≡◌, ◌≤◌, ◌+◌, ℕ, Bool, Option, Some, inr, refl, sym, subst, arith}
use Rattle.std.specs.Prelude.{IfSome}
use Rattle.hip_answers.specs.Answers.{Answer, Finishes, HasAnswered, Sinks, answered, outcome_of, refusal}
use Rattle.hip_answers.specs.Endings.{status_of_ending}
use Rattle.hip_answers.specs.Fetches.{FetchesFiles, fetches_by}
use Rattle.hip_answers.specs.Statuses.{status_of_failure}
use Rattle.hip_answers.specs.TraceFiles.{status_of_trace}
use Rattle.hip_answers.specs.declared.refusal.TraceFileRefusal.{TraceFileRefusal}
use Rattle.hip_answers.specs.declared.refusal.TraceFileRefusal.TheVariants as traces
use Rattle.hip_answers.specs.declared.status.FileRole.TheVariants as roles
use Rattle.hip_answers.specs.declared.status.Status.{Status}
use Rattle.hip_answers.specs.declared.status.Status.TheVariants as statuses
use Rattle.hip_io.specs.Cabinets.{CabinetState}
use Rattle.hip_io.specs.Sinks.{SinkState}
use Rattle.hip_io.specs.declared.sink.Put.{Put}
use Rattle.hip_io.specs.declared.sink.Put.TheVariants as puts
use Rattle.hip_program_files.specs.Outside.{CountsFetches, MakesFetches}
use Rattle.hip_program_files.specs.declared.failure.Failure.{Failure}
use Rattle.hip_program_files.specs.declared.failure.Failure.TheVariants as failures
use Rattle.hip_program_files.specs.declared.refusal.LoadRefusal.{LoadRefusal}
use Rattle.hip_program_files.specs.declared.refusal.LoadRefusal.TheVariants as loads
use Rattle.hip_runs.specs.declared.event.Ending.{Ending}
use Rattle.hip_runs.specs.declared.event.Ending.TheVariants as endings

-- The program was not loaded; its file was fetched.
pub lacks_program : (all : ℕ) {old new : CabinetState} → 1 ≤ all → (failure : Failure LoadRefusal)
    → CountsFetches 1 old new → FetchesFiles all (status_of_failure failure) old new
lacks_program all some (failures.Refused loads.Missing) once =
    record { count = 1; made = inr once; few = some; exact = refl }
lacks_program all some (failures.Refused loads.TooLarge) once =
    record { count = 1; made = inr once; few = some; exact = refl }
lacks_program all some (failures.Refused (loads.Bad why)) once =
    record { count = 1; made = inr once; few = some; exact = refl }
lacks_program all some failures.ReadFault once = record { count = 1; made = inr once; few = some; exact = tt {0} }
lacks_program all some failures.NoMemory once = record { count = 1; made = inr once; few = some; exact = tt {0} }

-- The only trace was not loaded; both files were fetched.
pub lacks_trace : {old new : CabinetState} → (failure : Failure TraceFileRefusal) → CountsFetches 2 old new
    → FetchesFiles 2 (status_of_trace failure) old new
lacks_trace (failures.Refused traces.Missing) both =
    record { count = 2; made = inr both; few = omega arith; exact = refl }
lacks_trace (failures.Refused (traces.Misfit entry kind)) both =
    record { count = 2; made = inr both; few = omega arith; exact = refl }
lacks_trace failures.ReadFault both = record { count = 2; made = inr both; few = omega arith; exact = tt {0} }
lacks_trace failures.NoMemory both = record { count = 2; made = inr both; few = omega arith; exact = tt {0} }

-- An answer whose status says that all files were fetched.
abbrev pub HasAll : ℕ → (Answer → Type 0) → Type 0
HasAll all table = (a : Answer) → table a → fetches_by all a.status ≡ Some all

all_are : (all : ℕ) (o : Option ℕ) → o ≡ Some all → IfSome o (λ n. all ≡ n)
all_are all o same = subst (λ x. IfSome x (λ n. all ≡ n)) (sym same) refl

-- All files were fetched, and the status says so, or it says nothing.
pub with_all : (all : ℕ) {old new : CabinetState} (status : Status) → MakesFetches all old new
    → IfSome (fetches_by all status) (λ n. all ≡ n) → FetchesFiles all status old new
with_all all status made exact = record { count = all; made = made; few = omega arith; exact = exact }

-- All files were fetched, and the call has tried to write its text for notes.
pub finished_with_all : (all : ℕ) {old new : CabinetState} (tried : Put) (status : Status) (mid end : SinkState)
    (result : Status) → MakesFetches all old new → fetches_by all status ≡ Some all
    → Finishes tried status mid end result → FetchesFiles all result old new
finished_with_all all {old} {new} puts.Done status mid end result made whole f =
    subst (λ x. FetchesFiles all x old new) (sym f.0)
    (with_all all status made (all_are all (fetches_by all status) whole))
finished_with_all all {old} {new} puts.Failed status mid end result made whole f =
    subst (λ x. FetchesFiles all x old new) (sym f.0) (with_all all statuses.WriteFault made refl)

-- All files were loaded, and the command has answered by a table whose statuses say so.
pub has_all : (all : ℕ) {table : Answer → Type 0} {begins : Bool} {old new : CabinetState} (s : Sinks)
    (status : Status) → MakesFetches all old new → HasAll all table
    → HasAnswered table begins old new s status → FetchesFiles all status old new
has_all all {table} {begins} {old} {new} s status made whole h =
    with_all all status made (exact status h.how)
  where
    exact : (x : Status) → answered (outcome_of x) table begins old new s x
        → IfSome (fetches_by all x) (λ n. all ≡ n)
    exact statuses.Done how = refl
    exact (statuses.Trapped kind) how = refl
    exact statuses.Cut how = refl
    exact statuses.WriteFault how = refl
    exact statuses.NoMemory how = tt {0}
    exact statuses.ReadFault how = tt {0}
    exact statuses.Usage how = refl
    exact (statuses.NoEntry entries) how = refl
    exact (statuses.BadPick why) how = refl
    exact statuses.TooLarge how =
        all_are all (fetches_by all statuses.TooLarge) (whole (refusal statuses.TooLarge) how.0)
    exact (statuses.BadProgram why) how =
        all_are all (fetches_by all (statuses.BadProgram why)) (whole (refusal (statuses.BadProgram why)) how.0)
    exact (statuses.Missing roles.Program) how =
        all_are all (fetches_by all (statuses.Missing roles.Program))
        (whole (refusal (statuses.Missing roles.Program)) how.0)
    exact (statuses.Missing roles.Trace) how =
        all_are all (fetches_by all (statuses.Missing roles.Trace))
        (whole (refusal (statuses.Missing roles.Trace)) how.0)
    exact (statuses.Missing (roles.Number number)) how =
        all_are all (fetches_by all (statuses.Missing (roles.Number number)))
        (whole (refusal (statuses.Missing (roles.Number number))) how.0)
    exact (statuses.Misfit entry kind) how =
        all_are all (fetches_by all (statuses.Misfit entry kind)) (whole (refusal (statuses.Misfit entry kind)) how.0)
    exact (statuses.MisfitIn trace entry kind) how =
        all_are all (fetches_by all (statuses.MisfitIn trace entry kind))
        (whole (refusal (statuses.MisfitIn trace entry kind)) how.0)

-- With every ending all files were fetched.
pub ending_has_all : (all : ℕ) (ending : Ending) → fetches_by all (status_of_ending ending) ≡ Some all
ending_has_all all (endings.Stop code) = refl
ending_has_all all (endings.Trap kind) = refl
ending_has_all all endings.Cut = refl
