-- What was recorded of the repaired program's run, as a result of `rerun`.
use Rattle.std.proofs.Common.{◌≡◌, true, List, ◌++◌, length, Err, Ok, refl, sym, ap, ◌∙◌, subst}
use Rattle.std.proofs.lemmas.Grind.{flat_map-append}
use Rattle.hip_answers.specs.Answers.{Answer, HasAnswered, WritesFront, sinks}
use Rattle.hip_answers.specs.Laws.{ran_out_later}
use Rattle.hip_answers.specs.declared.status.Status.{Status}
use Rattle.hip_answers.specs.declared.status.Status.TheVariants as statuses
use Rattle.hip_command_io.specs.Results.{GivesOnRun, status_of_recording}
use Rattle.hip_command_io.specs.StageLaws.{wrote_part, wrote_whole}
use Rattle.hip_command_io.specs.declared.counts.Counts.TheVariants as results
use Rattle.hip_io.specs.Sinks.{SinkState}
use Rattle.hip_tree.specs.declared.program.Program.{Program}
use Rattle.hip_repair_answers.specs.Answers.{HasRerun}
use Rattle.hip_repair_answers.specs.Cured.{IsCured, repaired_for}
use Rattle.hip_replay.specs.RecordedTrace.{HasFailedRecording, HasRecorded, HasStoppedRecording, Records}
use Rattle.hip_replay.specs.declared.refusal.RecordRefusal.{RecordRefusal}
use Rattle.hip_replay.specs.declared.refusal.RecordRefusal.TheVariants as records
use Rattle.hip_replay.specs.declared.record.Recorded.{Recorded}
use Rattle.hip_report_lines.specs.Counts.{rerun_counts}
use Rattle.hip_run_traces.specs.Traces.{IsTrace}
use Rattle.hip_runs.specs.Found.Marks.{IsFound}
use Rattle.hip_runs.specs.Laws.Found.FoundLaws.{found_exists}
use Rattle.hip_runs.specs.declared.input.Input.{Input}
use Rattle.hip_runs.specs.declared.report.Findings.{Findings}
use Rattle.hip_trace.specs.Texts.{line_of, lines_of}
use Rattle.hip_trace.specs.declared.entry.Entry.{Entry}

abbrev pub answer : Findings → List Entry → Findings → Answer
answer found trace after =
    record {
      status = statuses.Done;
      out = lines_of trace;
      notes = rerun_counts (length found.reports) (length after.reports);
    }

module _ (P : Program) (I : Input) (found : Findings) (cured : IsCured P I found) (Q : Program)
    (same : Q ≡ repaired_for P found) where
  row : (trace : List Entry) (after : Findings) → IsTrace (repaired_for P found) I trace
      → IsFound (repaired_for P found) I after → HasRerun P I found (answer found trace after)
  row trace after is_trace after_is = record {
    trace = trace;
    is_trace = is_trace;
    after = after;
    after_is = after_is;
    none_left = ap (λ (f : Findings). f.reports) after_is.is ∙ cured.clean after_is.steps;
    status_is = refl;
    out_is = refl;
    notes_is = refl;
  }

  pub rerun : {out out_new : SinkState} (recorded : Recorded) → HasRecorded Q I out out_new recorded
      → GivesOnRun (HasRerun P I found) true out out_new
      (Ok (results.Rerun (length found.reports) (length recorded.findings.reports)))
  rerun {out} {out_new} recorded h = λ old new met.
      let r : HasRecorded (repaired_for P found) I out out_new recorded =
      subst (λ (R : Program). HasRecorded R I out out_new recorded) same h in
      wrote_whole (answer found r.put.trace recorded.findings) (row r.put.trace recorded.findings r.put.is_trace r.found)
      (results.Rerun (length found.reports) (length recorded.findings.reports)) refl refl refl r.put.written

  rerun_part : {out out_new : SinkState} → HasFailedRecording Q I out out_new
      → GivesOnRun (HasRerun P I found) true out out_new (Err statuses.WriteFault)
  rerun_part {out} {out_new} h = λ old new met.
      let r : HasFailedRecording (repaired_for P found) I out out_new =
      subst (λ (R : Program). HasFailedRecording R I out out_new) same h in
      let after : (f : Findings) × IsFound (repaired_for P found) I f = found_exists (repaired_for P found) I in
      wrote_part (answer found r.trace after.0) (row r.trace after.0 r.is_trace after.1) refl r.written

  rerun_stopped : {out out_new : SinkState} → HasStoppedRecording Q I out out_new
      → GivesOnRun (HasRerun P I found) true out out_new (Err statuses.NoMemory)
  rerun_stopped {out} {out_new} h = λ old new met. record {
    answered = λ notes notes_new status w.
        let r : HasStoppedRecording (repaired_for P found) I out out_new =
        subst (λ (R : Program). HasStoppedRecording R I out out_new) same h in
        let after : (f : Findings) × IsFound (repaired_for P found) I f = found_exists (repaired_for P found) I in
        let trace = r.front ++ r.missing in
        let s = sinks out out_new notes notes_new in
        let front : WritesFront s (answer found trace after.0) = record {
          front = lines_of r.front;
          missing = lines_of r.missing;
          parts = flat_map-append line_of r.front r.missing;
          written = r.written;
        } in
        subst (λ (x : Status). HasAnswered (HasRerun P I found) true old new s x) (sym w.is)
        (ran_out_later s (answer found trace after.0) met (row trace after.0 r.is_trace after.1) front w.line);
  }

  pub rerun_ended : {out out_new : SinkState} (refusal : RecordRefusal) → Records Q I out out_new (Err refusal)
      → GivesOnRun (HasRerun P I found) true out out_new (Err (status_of_recording refusal))
  rerun_ended records.WriteFault h = rerun_part h
  rerun_ended records.NoMemory h = rerun_stopped h
