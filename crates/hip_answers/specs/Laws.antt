-- How the answer of a call follows from what it read and wrote.
use Rattle.std.specs.Prelude.{ℕ, ◌≡◌, ◌⊎◌, Bool, true, false, List, Err}
use Rattle.std.proofs.Common.{inl, inr, refl, sym, subst}
use Rattle.hip_answers.specs.Answers.{Answer, CarriedOut, CutShort, Finishes, HasAnswered, HasBegun, Outcome, PutsLine, RanOut, Refused, Sinks, WritesFront, answered, outcome_of, refusal}
use Rattle.hip_answers.specs.Programs.{IsUnloaded, LacksProgram}
use Rattle.hip_answers.specs.Statuses.{status_of_failure}
use Rattle.hip_answers.specs.declared.status.Status.{Status}
use Rattle.hip_answers.specs.declared.status.Status.TheVariants as statuses
use Rattle.hip_io.specs.Cabinets.{CabinetState}
use Rattle.hip_io.specs.Sinks.{AppendsAll, AppendsPrefix, HasPut, SinkState}
use Rattle.hip_io.specs.declared.sink.Put.{Put}
use Rattle.hip_io.specs.declared.sink.Put.TheVariants as puts
use Rattle.hip_program_files.specs.LoadedPrograms.{HasFailedLoading, Loads}
use Rattle.hip_program_files.specs.Outside.{HasMet}
use Rattle.hip_program_files.specs.declared.failure.Failure.{Failure}
use Rattle.hip_program_files.specs.declared.failure.Failure.TheVariants as failures
use Rattle.hip_program_files.specs.declared.refusal.LoadRefusal.{LoadRefusal}
use Rattle.hip_program_files.specs.declared.refusal.LoadRefusal.TheVariants as loads

-- ---- refusals

pub refused : {table : Answer → Type 0} {begins : Bool} {old new : CabinetState} (s : Sinks) (status : Status)
    → outcome_of status ≡ Refused → table (refusal status) → s.out_new ≡ s.out
    → PutsLine status s.notes s.notes_new
    → HasAnswered table begins old new s status
refused {table} {begins} {old} {new} s status e row kept line = record {
  how = subst (λ o. answered o table begins old new s status) (sym e) (row, record { out = kept; notes = line });
}

-- Memory ran out before anything was written.
pub ran_out : {table : Answer → Type 0} {begins : Bool} {old new : CabinetState} (s : Sinks)
    → HasMet false false old new
    → s.out_new ≡ s.out → PutsLine statuses.NoMemory s.notes s.notes_new
    → HasAnswered table begins old new s statuses.NoMemory
ran_out s met kept line = record { how = record { met = met; out = inl kept; line = line } }

-- ---- texts

pub cut_out : {table : Answer → Type 0} {begins : Bool} {old new : CabinetState} (s : Sinks) (answer : Answer)
    → table answer → outcome_of answer.status ≡ CarriedOut → AppendsPrefix s.out s.out_new answer.out
    → PutsLine statuses.WriteFault s.notes s.notes_new → HasAnswered table begins old new s statuses.WriteFault
cut_out s answer row carried out line = record {
  how = record {
    answer = answer;
    is = row;
    carried_out = carried;
    written = inl (record { out = out; notes = line });
  };
}

-- Memory ran out while the text for out was made: a front of it is written.
pub ran_out_later : {table : Answer → Type 0} {old new : CabinetState} (s : Sinks) (answer : Answer)
    → HasMet false false old new → table answer → WritesFront s answer
    → PutsLine statuses.NoMemory s.notes s.notes_new
    → HasAnswered table true old new s statuses.NoMemory
ran_out_later s answer met row front line =
    record { how = record { met = met; out = inr (answer, row, front); line = line } }

-- The text for out is written whole, and the call has tried to write that for notes.
pub finished : {table : Answer → Type 0} {begins : Bool} {old new : CabinetState} (s : Sinks) (answer : Answer)
    (tried : Put) (mid : SinkState) (result : Status) → table answer → outcome_of answer.status ≡ CarriedOut
    → AppendsAll s.out s.out_new answer.out → HasPut s.notes mid answer.notes tried
    → Finishes tried answer.status mid s.notes_new result → HasAnswered table begins old new s result
finished {table} {begins} {old} {new} s answer puts.Done mid result row carried out notes f =
    let whole : AppendsAll s.notes s.notes_new answer.notes =
    subst (λ n. AppendsAll s.notes n answer.notes) (sym f.1) notes in
    subst (λ x. HasAnswered table begins old new s x) (sym f.0) (record {
      how = subst (λ o. answered o table begins old new s answer.status) (sym carried) (record {
        answer = answer;
        is = row;
        status_is = refl;
        written = record { out = out; notes = whole };
      });
    })
finished {table} {begins} {old} {new} s answer puts.Failed mid result row carried out notes f =
    subst (λ x. HasAnswered table begins old new s x) (sym f.0) (record {
      how = record {
        answer = answer;
        is = row;
        carried_out = carried;
        written = inr (record { out = out; cut = mid; notes = notes; line = f.1 });
      };
    })

-- ---- programs

-- The program was not loaded. The table has a row for each refusal, and one for a file that could not be read.
pub unloaded_by : {table : Answer → Type 0} {begins : Bool} {old new : CabinetState} (s : Sinks) (name : List ℕ)
    (failure : Failure LoadRefusal) → ((a : Answer) → IsUnloaded old new name a → table a)
    → (HasFailedLoading old new name → table (refusal statuses.ReadFault)) → Loads name old new (Err failure)
    → s.out_new ≡ s.out → PutsLine (status_of_failure failure) s.notes s.notes_new
    → HasAnswered table begins old new s (status_of_failure failure)
unloaded_by s name (failures.Refused loads.Missing) rows unread h kept line =
    refused s _ refl (rows _ (record { why = loads.Missing; met = h.0; cause = h.1; is = refl })) kept line
unloaded_by s name (failures.Refused loads.TooLarge) rows unread h kept line =
    refused s _ refl (rows _ (record { why = loads.TooLarge; met = h.0; cause = h.1; is = refl })) kept line
unloaded_by s name (failures.Refused (loads.Bad why)) rows unread h kept line =
    refused s _ refl (rows _ (record { why = loads.Bad why; met = h.0; cause = h.1; is = refl })) kept line
unloaded_by s name failures.ReadFault rows unread h kept line = refused s statuses.ReadFault refl (unread h) kept line
unloaded_by s name failures.NoMemory rows unread h kept line = ran_out s h kept line

pub unloaded : {table : Answer → Type 0} {begins : Bool} {old new : CabinetState} (s : Sinks) (name : List ℕ)
    (failure : Failure LoadRefusal) → ((a : Answer) → LacksProgram old new name a → table a)
    → Loads name old new (Err failure) → s.out_new ≡ s.out
    → PutsLine (status_of_failure failure) s.notes s.notes_new
    → HasAnswered table begins old new s (status_of_failure failure)
unloaded s name failure rows h kept line =
    unloaded_by s name failure (λ a u. rows a (inl u))
    (λ u. rows (refusal statuses.ReadFault) (inr (record { failed = u; is = refl }))) h kept line

-- ---- a larger table

begun_by : {table wider : Answer → Type 0} (begins : Bool) (s : Sinks) → ((a : Answer) → table a → wider a)
    → HasBegun begins table s → HasBegun begins wider s
begun_by true s wide h = (h.0, wide h.0 h.1, h.2)
begun_by false s wide h = h

-- An answer by one table is an answer by each table that has all of its answers.
pub answered_by : {table wider : Answer → Type 0} {begins : Bool} {old new : CabinetState} (s : Sinks)
    (status : Status) → ((a : Answer) → table a → wider a) → HasAnswered table begins old new s status
    → HasAnswered wider begins old new s status
answered_by {table} {wider} {begins} {old} {new} s status wide h = record { how = by_outcome (outcome_of status) h.how }
  where
    kept_or_begun : (s.out_new ≡ s.out) ⊎ HasBegun begins table s → (s.out_new ≡ s.out)
        ⊎ HasBegun begins wider s
    kept_or_begun (inl kept) = inl kept
    kept_or_begun (inr begun) = inr (begun_by begins s wide begun)

    by_outcome : (o : Outcome) → answered o table begins old new s status → answered o wider begins old new s status
    by_outcome CarriedOut x =
        record { answer = x.answer; is = wide x.answer x.is; status_is = x.status_is; written = x.written }
    by_outcome Refused x = (wide (refusal status) x.0, x.1)
    by_outcome CutShort x =
        record { answer = x.answer; is = wide x.answer x.is; carried_out = x.carried_out; written = x.written }
    by_outcome RanOut x = record { met = x.met; out = kept_or_begun x.out; line = x.line }
