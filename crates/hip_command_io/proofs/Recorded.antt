-- What a run has recorded, as a result.
use Rattle.std.proofs.Common.{ℕ, true, List, ◌++◌, Ok, Err, refl, sym, subst}
use Rattle.std.proofs.lemmas.Grind.{flat_map-append}
use Rattle.hip_answers.specs.Answers.{HasAnswered, WritesFront, sinks}
use Rattle.hip_answers.specs.EndingLaws.{answer_of, is_carried_out, text_of}
use Rattle.hip_answers.specs.Laws.{cut_out, finished, ran_out_later}
use Rattle.hip_answers.specs.Traces.{GivesTrace}
use Rattle.hip_answers.specs.declared.status.Status.{Status}
use Rattle.hip_answers.specs.declared.status.Status.TheVariants as statuses
use Rattle.hip_run_traces.specs.TraceTexts.{IsTraceText}
use Rattle.hip_io.specs.Sinks.{SinkState}
use Rattle.hip_tree.specs.declared.program.Program.{Program}
use Rattle.hip_lockstep.specs.declared.ended.Ended.{Ended}
use Rattle.hip_replay.specs.RecordedTrace.{HasFailedRecording, HasPutTrace, HasStoppedRecording, PutsTrace}
use Rattle.hip_replay.specs.declared.refusal.RecordRefusal.{RecordRefusal}
use Rattle.hip_replay.specs.declared.refusal.RecordRefusal.TheVariants as records
use Rattle.hip_runs.specs.declared.event.Ending.{Ending}
use Rattle.hip_runs.specs.declared.input.Input.{Input}
use Rattle.hip_trace.specs.Texts.{line_of, lines_of}
use Rattle.hip_command_io.specs.Results.{GivesOnRun, status_of_recording}
use Rattle.hip_command_io.specs.declared.counts.Counts.TheVariants as counts

module _ (P : Program) (I : Input) (out out_new : SinkState) where
  row : (text : List ℕ) (ending : Ending) → IsTraceText P I text ending → GivesTrace P I (answer_of text ending)
  row text ending traced = record { ending = ending; traced = traced; status_is = refl; notes_is = refl }

  pub has_recorded : (done : Ended) → HasPutTrace P I out out_new done
      → GivesOnRun (GivesTrace P I) true out out_new (Ok (counts.Ending done.ending))
  has_recorded done p = λ old new met. record {
    answered = λ notes notes_new status w.
        let text = lines_of p.trace in
        let traced : IsTraceText P I text done.ending =
        record { trace = p.trace; is_trace = p.is_trace; ended = p.ended; is = refl } in
        finished (sinks out out_new notes notes_new) (answer_of text done.ending) w.tried w.mid status
        (row text done.ending traced) (is_carried_out done.ending) p.written w.text.how w.ends;
  }

  was_cut : HasFailedRecording P I out out_new → GivesOnRun (GivesTrace P I) true out out_new (Err statuses.WriteFault)
  was_cut p = λ old new met. record {
    answered = λ notes notes_new status w.
        let whole = text_of P I p.trace p.is_trace in
        let s = sinks out out_new notes notes_new in
        subst (λ (x : Status). HasAnswered (GivesTrace P I) true old new s x) (sym w.is)
        (cut_out s (answer_of (lines_of p.trace) whole.0) (row (lines_of p.trace) whole.0 whole.1)
        (is_carried_out whole.0) p.written w.line);
  }

  ran_out : HasStoppedRecording P I out out_new → GivesOnRun (GivesTrace P I) true out out_new (Err statuses.NoMemory)
  ran_out p = λ old new met. record {
    answered = λ notes notes_new status w.
        let text = lines_of (p.front ++ p.missing) in
        let whole = text_of P I (p.front ++ p.missing) p.is_trace in
        let s = sinks out out_new notes notes_new in
        let front : WritesFront s (answer_of text whole.0) =
        record {
          front = lines_of p.front;
          missing = lines_of p.missing;
          parts = flat_map-append line_of p.front p.missing;
          written = p.written;
        } in
        subst (λ (x : Status). HasAnswered (GivesTrace P I) true old new s x) (sym w.is)
        (ran_out_later s (answer_of text whole.0) met (row text whole.0 whole.1) front w.line);
  }

  pub has_stopped : (refusal : RecordRefusal) → PutsTrace P I out out_new (Err refusal)
      → GivesOnRun (GivesTrace P I) true out out_new (Err (status_of_recording refusal))
  has_stopped records.WriteFault p = was_cut p
  has_stopped records.NoMemory p = ran_out p
