-- What a command gives that ends at one of its first stages, or whose run was not written whole.
use Rattle.std.proofs.Common.{◌≡◌, ◌≤◌, ◌∙◌, ℕ, Bool, Err, Ok, false, refl, sym, ap, subst}
use Rattle.std.specs.Prelude.{List, Result}
use Rattle.std.specs.Result.{IsErrAnd}
use Rattle.hip_answers.specs.Answers.{Answer, CarriedOut, Finishes, HasAnswered, IsDelivered, outcome_of, sinks}
use Rattle.hip_answers.specs.Endings.{status_of_ending}
use Rattle.hip_answers.specs.FetchLaws.{lacks_program, with_all}
use Rattle.hip_answers.specs.Fetches.{FetchesFiles}
use Rattle.hip_answers.specs.Laws.{cut_out, finished, unloaded}
use Rattle.hip_answers.specs.Programs.{LacksProgram}
use Rattle.hip_answers.specs.Statuses.{status_of_failure}
use Rattle.hip_answers.specs.declared.status.Status.{Status}
use Rattle.hip_answers.specs.declared.status.Status.TheVariants as statuses
use Rattle.hip_command_io.specs.ResultLaws.{gives_no_memory, on_exit}
use Rattle.hip_command_io.specs.Results.{GivesResult, notes_of, status_of, status_of_counts, status_of_recording}
use Rattle.hip_command_io.specs.declared.counts.Counts.{Counts}
use Rattle.hip_io.specs.Cabinets.{CabinetState}
use Rattle.hip_io.specs.Sinks.{AppendsAll, AppendsPrefix, HasPut, SinkState}
use Rattle.hip_program_files.specs.LoadedPrograms.{Loads}
use Rattle.hip_program_files.specs.Outside.{CountsFetches, HasMet, MakesFetches}
use Rattle.hip_program_files.specs.declared.failure.Failure.{Failure}
use Rattle.hip_program_files.specs.declared.refusal.LoadRefusal.{LoadRefusal}
use Rattle.hip_replay.specs.Delivery.{HoldsNothingAfter}
use Rattle.hip_replay.specs.declared.refusal.RecordRefusal.{RecordRefusal}
use Rattle.hip_replay.specs.declared.refusal.RecordRefusal.TheVariants as records
use Rattle.hip_runs.specs.declared.event.Ending.{Ending}
use Rattle.hip_runs.specs.declared.event.Ending.TheVariants as endings

module _ {table : Answer → Type 0} {begins : Bool} {old new : CabinetState} {out : SinkState} where
  -- There is no program in the file; the table has a row for each cause.
  pub no_program : (name : List ℕ) (failure : Failure LoadRefusal) (given : Result Counts Status)
      → ((a : Answer) → LacksProgram old new name a → table a) → Loads name old new (Err failure)
      → IsErrAnd given (λ s. s ≡ status_of_failure failure) → GivesResult table begins old new out out given
  no_program name failure given rows h exit =
      on_exit (λ (r : Result Counts Status). GivesResult table begins old new out out r) given (status_of_failure failure)
      exit (record {
        answered = λ notes notes_new status w.
            subst (λ (x : Status). HasAnswered table begins old new (sinks out out notes notes_new) x) (sym w.is)
            (unloaded (sinks out out notes notes_new) name failure rows h refl w.line);
      })

  -- Memory ran out at a stage that writes nothing.
  pub no_memory : (given : Result Counts Status) → HasMet false false old new
      → IsErrAnd given (λ s. s ≡ statuses.NoMemory) → GivesResult table begins old new out out given
  no_memory given met exit =
      on_exit (λ (r : Result Counts Status). GivesResult table begins old new out out r) given statuses.NoMemory exit
      (gives_no_memory met refl)

-- ---- texts

module _ {table : Answer → Type 0} {begins : Bool} {old new : CabinetState} {out out_new : SinkState} (answer : Answer)
    (row : table answer) where
  -- The text for out was written whole, and the counts are those of the answer.
  pub wrote_whole : (made : Counts) → answer.status ≡ status_of_counts made → answer.notes ≡ notes_of made
      → outcome_of (status_of_counts made) ≡ CarriedOut → AppendsAll out out_new answer.out
      → GivesResult table begins old new out out_new (Ok made)
  wrote_whole made status_is notes_is carried whole = record {
    answered = λ notes notes_new status w.
        finished (sinks out out_new notes notes_new) answer w.tried w.mid status row (ap outcome_of status_is ∙ carried) whole
        (subst (λ (text : List ℕ). HasPut notes w.mid text w.tried) (sym notes_is) w.text.how)
        (subst (λ (x : Status). Finishes w.tried x w.mid notes_new status) (sym status_is) w.ends);
  }

  -- The text for out was cut short.
  pub wrote_part : outcome_of answer.status ≡ CarriedOut → AppendsPrefix out out_new answer.out
      → GivesResult table begins old new out out_new (Err statuses.WriteFault)
  wrote_part carried part = record {
    answered = λ notes notes_new status w.
        subst (λ (x : Status). HasAnswered table begins old new (sinks out out_new notes notes_new) x) (sym w.is)
        (cut_out (sinks out out_new notes notes_new) answer row carried part w.line);
  }

-- ---- fetches

module _ {old new : CabinetState} where
  pub no_program_fetched : (all : ℕ) → 1 ≤ all → (failure : Failure LoadRefusal) (given : Result Counts Status)
      → CountsFetches 1 old new → IsErrAnd given (λ s. s ≡ status_of_failure failure)
      → FetchesFiles all (status_of given) old new
  no_program_fetched all some failure given once exit =
      on_exit (λ (r : Result Counts Status). FetchesFiles all (status_of r) old new) given (status_of_failure failure)
      exit (lacks_program all some failure once)

  pub no_memory_fetched : (all : ℕ) (given : Result Counts Status) → MakesFetches all old new
      → IsErrAnd given (λ s. s ≡ statuses.NoMemory) → FetchesFiles all (status_of given) old new
  no_memory_fetched all given made exit =
      on_exit (λ (r : Result Counts Status). FetchesFiles all (status_of r) old new) given statuses.NoMemory exit
      (with_all all statuses.NoMemory made (tt {0}))

  -- A run has ended, and all files were fetched.
  pub ended_fetched : (all : ℕ) (ending : Ending) → MakesFetches all old new
      → FetchesFiles all (status_of_ending ending) old new
  ended_fetched all (endings.Stop code) made = with_all all statuses.Done made refl
  ended_fetched all (endings.Trap kind) made = with_all all (statuses.Trapped kind) made refl
  ended_fetched all endings.Cut made = with_all all statuses.Cut made refl

  pub stopped_fetched : (all : ℕ) (refusal : RecordRefusal) → MakesFetches all old new
      → FetchesFiles all (status_of_recording refusal) old new
  stopped_fetched all records.WriteFault made = with_all all statuses.WriteFault made refl
  stopped_fetched all records.NoMemory made = with_all all statuses.NoMemory made (tt {0})

-- ---- what is held back

-- What a recording holds back, a command holds back that ends with it.
pub stopped_delivered : (refusal : RecordRefusal) (held : ℕ) → HoldsNothingAfter refusal held
    → IsDelivered (status_of_recording refusal) held
stopped_delivered records.WriteFault held h fault = absurd (fault refl)
stopped_delivered records.NoMemory held h fault = h
