-- What a run has printed, as a result of `run`.
use Rattle.std.proofs.Common.{◌≡◌, ℕ, ℤ, true, false, List, ◌++◌, Err, Ok, refl, sym, subst, inr}
use Rattle.hip_answers.specs.Answers.{HasAnswered, WritesFront, sinks}
use Rattle.hip_answers.specs.EndingLaws.{answer_of, is_carried_out}
use Rattle.hip_answers.specs.Laws.{cut_out, finished, ran_out_later}
use Rattle.hip_answers.specs.declared.status.Status.{Status}
use Rattle.hip_answers.specs.declared.status.Status.TheVariants as statuses
use Rattle.hip_command_io.specs.Results.{GivesResult, status_of_recording}
use Rattle.hip_command_io.specs.declared.counts.Counts.TheVariants as counts
use Rattle.hip_runs.specs.FirstInput.{first_input}
use Rattle.hip_run_commands.specs.Run.{RunAnswers}
use Rattle.hip_io.specs.Cabinets.{CabinetState}
use Rattle.hip_io.specs.Sinks.{SinkState}
use Rattle.hip_tree.specs.declared.program.Program.{Program}
use Rattle.hip_program_files.specs.LoadedPrograms.{IsProgramOf}
use Rattle.hip_program_files.specs.Outside.{HasMet}
use Rattle.hip_replay.specs.PrintedText.{PrintHasFailed, HasPrinted, PrintHasStopped, IsPrinted, Prints}
use Rattle.hip_replay.specs.declared.refusal.RecordRefusal.{RecordRefusal}
use Rattle.hip_replay.specs.declared.refusal.RecordRefusal.TheVariants as records
use Rattle.hip_runs.specs.declared.event.Ending.{Ending}
use Rattle.hip_runs.specs.declared.input.Input.{Input}
use Rattle.hip_types.specs.declared.limits.TheConstants.{LOWEST_BASE}

module _ {old new : CabinetState} {name : List ℕ} {limit : ℕ} {numbers : List ℤ} (P : Program) (I : Input)
    (out out_new : SinkState) (met : HasMet false false old new) (loaded : IsProgramOf old.files name P)
    (input : I ≡ first_input P LOWEST_BASE limit numbers) where
  row : (text : List ℕ) (ending : Ending) → IsPrinted P I text ending
      → RunAnswers old new name limit numbers (answer_of text ending)
  row text ending printed = inr (record {
    program = P;
    loaded = loaded;
    met = met;
    ending = ending;
    printed = subst (λ (i : Input). IsPrinted P i text ending) input printed;
    status_is = refl;
    notes_is = refl;
  })

  pub has_run : (ending : Ending) → HasPrinted P I out out_new ending
      → GivesResult (RunAnswers old new name limit numbers) true old new out out_new (Ok (counts.Ending ending))
  has_run ending p = record {
    answered = λ notes notes_new status w.
        finished (sinks out out_new notes notes_new) (answer_of p.text ending) w.tried w.mid status
        (row p.text ending p.printed) (is_carried_out ending) p.written w.text.how w.ends;
  }

  was_cut : PrintHasFailed P I out out_new
      → GivesResult (RunAnswers old new name limit numbers) true old new out out_new (Err statuses.WriteFault)
  was_cut p = record {
    answered = λ notes notes_new status w.
        let s = sinks out out_new notes notes_new in
        subst (λ (x : Status). HasAnswered (RunAnswers old new name limit numbers) true old new s x) (sym w.is)
        (cut_out s (answer_of p.text p.ending) (row p.text p.ending p.printed) (is_carried_out p.ending) p.written w.line);
  }

  ran_out : PrintHasStopped P I out out_new
      → GivesResult (RunAnswers old new name limit numbers) true old new out out_new (Err statuses.NoMemory)
  ran_out p = record {
    answered = λ notes notes_new status w.
        let text = p.front ++ p.missing in
        let s = sinks out out_new notes notes_new in
        let front : WritesFront s (answer_of text p.ending) =
        record { front = p.front; missing = p.missing; parts = refl; written = p.written } in
        subst (λ (x : Status). HasAnswered (RunAnswers old new name limit numbers) true old new s x) (sym w.is)
        (ran_out_later s (answer_of text p.ending) met (row text p.ending p.printed) front w.line);
  }

  pub has_stopped : (refusal : RecordRefusal) → Prints P I out out_new (Err refusal)
      → GivesResult (RunAnswers old new name limit numbers) true old new out out_new (Err (status_of_recording refusal))
  has_stopped records.WriteFault p = was_cut p
  has_stopped records.NoMemory p = ran_out p
