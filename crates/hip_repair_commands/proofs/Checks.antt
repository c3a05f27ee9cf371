-- What was written of the reports, as a result of `check`.
use Rattle.std.proofs.Common.{◌≡◌, false, length, Err, Ok, refl, sym, ap, ◌∙◌}
use Rattle.hip_answers.specs.Answers.{Answer}
use Rattle.hip_answers.specs.declared.status.Status.TheVariants as statuses
use Rattle.hip_command_io.specs.Results.{GivesOnRun}
use Rattle.hip_command_io.specs.StageLaws.{wrote_part, wrote_whole}
use Rattle.hip_command_io.specs.declared.counts.Counts.TheVariants as counts
use Rattle.hip_io.specs.Sinks.{AppendsAll, AppendsPrefix, SinkState}
use Rattle.hip_tree.specs.declared.program.Program.{Program}
use Rattle.hip_repair_answers.specs.Answers.{HasChecked}
use Rattle.hip_report_lines.specs.Counts.{check_counts}
use Rattle.hip_report_lines.specs.Reports.{report_lines}
use Rattle.hip_runs.specs.declared.input.Input.{Input}
use Rattle.hip_runs.specs.declared.report.Findings.{Findings}

-- What `check` answers depends on the reports alone.
pub reported_alike : (P : Program) (I : Input) (f found : Findings) → found.reports ≡ f.reports → (a : Answer)
    → HasChecked P I f a → HasChecked P I found a
reported_alike P I f found same a h = record {
  status_is = h.status_is;
  out_is = h.out_is ∙ ap (report_lines P) (sym same);
  notes_is = h.notes_is ∙ ap (λ rs. check_counts (length rs)) (sym same);
}

module _ (P : Program) (I : Input) (found : Findings) where
  -- The answer of `check`: the reports, and on notes how many they are.
  abbrev answer : Answer
  answer =
      record {
        status = statuses.Done;
        out = report_lines P found.reports;
        notes = check_counts (length found.reports);
      }

  row : HasChecked P I found answer
  row = record { status_is = refl; out_is = refl; notes_is = refl }

  pub reported : {out out_new : SinkState} → AppendsAll out out_new (report_lines P found.reports)
      → GivesOnRun (HasChecked P I found) false out out_new (Ok (counts.Reports (length found.reports)))
  reported whole = λ old new met. wrote_whole answer row (counts.Reports (length found.reports)) refl refl refl whole

  pub reported_part : {out out_new : SinkState} → AppendsPrefix out out_new (report_lines P found.reports)
      → GivesOnRun (HasChecked P I found) false out out_new (Err statuses.WriteFault)
  reported_part part = λ old new met. wrote_part answer row refl part
