-- What follows from the result of a command.
use Rattle.std.proofs.Common.{◌≡◌, ◌∙◌, ℕ, Bool, false, None, Ok, Err, inl, refl, sym, ap, subst}
use Rattle.std.specs.Prelude.{IfSome, Result}
use Rattle.std.specs.Result.{IsErrAnd}
use Rattle.std.proofs.lemmas.Result.{err_from_is_err_and}
use Rattle.hip_answers.specs.Answers.{Answer, Finishes, HasAnswered, IsDelivered, sinks}
use Rattle.hip_answers.specs.FetchLaws.{HasAll, has_all}
use Rattle.hip_answers.specs.Fetches.{FetchesFiles, fetches_by}
use Rattle.hip_answers.specs.Laws.{answered_by, ran_out}
use Rattle.hip_answers.specs.declared.status.Status.{Status}
use Rattle.hip_answers.specs.declared.status.Status.TheVariants as statuses
use Rattle.hip_command_io.specs.Results.{GivesResult, WritesResult, status_of, status_of_counts}
use Rattle.hip_command_io.specs.declared.counts.Counts.{Counts}
use Rattle.hip_command_io.specs.declared.counts.Counts.TheVariants as counts
use Rattle.hip_io.specs.Cabinets.{CabinetState}
use Rattle.hip_io.specs.Sinks.{SinkState}
use Rattle.hip_io.specs.declared.sink.Put.{Put}
use Rattle.hip_io.specs.declared.sink.Put.TheVariants as puts
use Rattle.hip_program_files.specs.Outside.{HasMet, MakesFetches}
use Rattle.hip_runs.specs.declared.event.Ending.TheVariants as endings

-- What the exit of a `?` gives.
pub on_exit : {T E : Type 0} (P : Result T E → Type 0) (r : Result T E) (e : E) → IsErrAnd r (λ y. y ≡ e) → P (Err e)
    → P r
on_exit P r e h p = let q = err_from_is_err_and r h in subst P (sym (q.1 ∙ ap (λ x. Err x) q.2)) p

-- Notes of which nothing is known.
abbrev unknown : SinkState
unknown = record { bytes = None; faults = 0 }

module _ {table : Answer → Type 0} {begins : Bool} {old new : CabinetState} {out out_new : SinkState} where
  -- A result by one table is a result by each table that has all of its answers.
  pub given_by : {wider : Answer → Type 0} (given : Result Counts Status) → ((a : Answer) → table a → wider a)
      → GivesResult table begins old new out out_new given → GivesResult wider begins old new out out_new given
  given_by given wide h = record {
    answered = λ notes notes_new status w.
        answered_by (sinks out out_new notes notes_new) status wide (h.answered notes notes_new status w);
  }

  -- Memory ran out before anything was written.
  pub gives_no_memory : HasMet false false old new → out_new ≡ out
      → GivesResult table begins old new out out_new (Err statuses.NoMemory)
  gives_no_memory met kept = record {
    answered = λ notes notes_new status w.
        subst (λ (x : Status). HasAnswered table begins old new (sinks out out_new notes notes_new) x) (sym w.is)
        (ran_out (sinks out out_new notes notes_new) met kept w.line);
  }

  -- The answer, if the notes can be written.
  answer_of : (given : Result Counts Status) → GivesResult table begins old new out out_new given
      → HasAnswered table begins old new (sinks out out_new unknown unknown) (status_of given)
  answer_of (Ok made) h =
      h.answered unknown unknown (status_of_counts made) (record {
        tried = puts.Done;
        mid = unknown;
        text = record { how = record { bytes = refl; faults = refl } };
        ends = (refl, refl);
      })
  answer_of (Err status) h =
      h.answered unknown unknown status (record { is = refl; line = inl (record { bytes = refl; faults = refl }) })

  -- All files were loaded, and the command gives a result by a table whose statuses say so.
  pub given_with_all : (all : ℕ) (given : Result Counts Status) → MakesFetches all old new → HasAll all table
      → GivesResult table begins old new out out_new given → FetchesFiles all (status_of given) old new
  given_with_all all given made whole h =
      has_all all (sinks out out_new unknown unknown) (status_of given) made whole (answer_of given h)

-- ---- the end of the call

-- A command that was carried out has fetched all files.
carried_has_all : (all count : ℕ) (made : Counts) → IfSome (fetches_by all (status_of_counts made)) (λ n. count ≡ n)
    → count ≡ all
carried_has_all all count (counts.Ending (endings.Stop code)) h = h
carried_has_all all count (counts.Ending (endings.Trap kind)) h = h
carried_has_all all count (counts.Ending endings.Cut) h = h
carried_has_all all count counts.Nothing h = h
carried_has_all all count (counts.Reports reports) h = h
carried_has_all all count (counts.Repair reports plan clones) h = h
carried_has_all all count (counts.Thin reports plan clones spared) h = h
carried_has_all all count (counts.Rerun before after) h = h
carried_has_all all count (counts.Many many) h = h

-- The files that a command has fetched are those that the status of the call tells.
pub fetched_then : (all : ℕ) {old new : CabinetState} (given : Result Counts Status) (notes notes_new : SinkState)
    (status : Status) → FetchesFiles all (status_of given) old new → WritesResult given notes notes_new status
    → FetchesFiles all status old new
fetched_then all {old} {new} (Err refused) notes notes_new status f w =
    subst (λ (x : Status). FetchesFiles all x old new) (sym w.is) f
fetched_then all {old} {new} (Ok made) notes notes_new status f w = go w.tried w.ends
  where
    go : (tried : Put) → Finishes tried (status_of_counts made) w.mid notes_new status
        → FetchesFiles all status old new
    go puts.Done ends = subst (λ (x : Status). FetchesFiles all x old new) (sym ends.0) f
    go puts.Failed ends = subst (λ (x : Status). FetchesFiles all x old new) (sym ends.0) (record {
      count = f.count;
      made = f.made;
      few = f.few;
      exact = carried_has_all all f.count made f.exact;
    })

-- What is delivered at the end of a command is delivered at the end of the call.
pub delivered_then : (given : Result Counts Status) (notes notes_new : SinkState) (status : Status) (held : ℕ)
    → IsDelivered (status_of given) held → WritesResult given notes notes_new status → IsDelivered status held
delivered_then (Err refused) notes notes_new status held d w fault = d (λ is. fault (w.is ∙ is))
delivered_then (Ok made) notes notes_new status held d w fault = go w.tried w.ends
  where
    go : (tried : Put) → Finishes tried (status_of_counts made) w.mid notes_new status → held ≡ 0
    go puts.Done ends = d (λ is. fault (ends.0 ∙ is))
    go puts.Failed ends = absurd (fault ends.0)
