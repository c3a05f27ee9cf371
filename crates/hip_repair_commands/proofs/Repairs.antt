-- What was written of a repaired program, as a result of `repair`.
use Rattle.std.proofs.Common.{◌≡◌, ℕ, false, List, length, Ok, refl, ap, ◌∙◌}
use Rattle.std.specs.Prelude.{Result}
use Rattle.std.specs.Result.{IsErrAnd}
use Rattle.hip_answers.specs.Answers.{Answer}
use Rattle.hip_answers.specs.declared.status.Status.{Status}
use Rattle.hip_answers.specs.declared.status.Status.TheVariants as statuses
use Rattle.hip_command_io.specs.ResultLaws.{on_exit}
use Rattle.hip_command_io.specs.Results.{GivesOnRun, GivesResult}
use Rattle.hip_command_io.specs.StageLaws.{wrote_part, wrote_whole}
use Rattle.hip_command_io.specs.declared.counts.Counts.{Counts}
use Rattle.hip_command_io.specs.declared.counts.Counts.TheVariants as results
use Rattle.hip_io.specs.Sinks.{AppendsAll, AppendsPrefix, SinkState}
use Rattle.hip_grammar.specs.Show.{show}
use Rattle.hip_tree.specs.declared.program.Program.{Program}
use Rattle.hip_repair_answers.specs.Answers.{HasRepaired}
use Rattle.hip_repair_answers.specs.Cured.{IsCured}
use Rattle.hip_run_repairs.specs.RunRepairs.{IsRepairFor}
use Rattle.hip_run_repairs.specs.declared.one_run.Repair.{Repair}
use Rattle.hip_repairs.specs.Choice.{plan_for}
use Rattle.hip_repairs.specs.CloneNumbers.{clone_numbers}
use Rattle.hip_repairs.specs.declared.plan.CloneOf.{CloneOf}
use Rattle.hip_repairs.specs.declared.plan.Plan.{Plan}
use Rattle.hip_report_lines.specs.Counts.{repair_counts}
use Rattle.hip_runs.specs.declared.input.Input.{Input}
use Rattle.hip_runs.specs.declared.report.Findings.{Findings}

module _ (P : Program) (I : Input) (found : Findings) (repair : Repair) (is : IsRepairFor P found repair)
    (cured : IsCured P I found) where
  -- How many reports, flushes, fences, hoisted calls and clones there are.
  abbrev counts : List ℕ
  counts = repair_counts (length found.reports) repair.plan (length repair.repaired.clones)

  -- The answer of `repair`: the repaired program, and the counts on notes.
  abbrev answer : Answer
  answer = record { status = statuses.Done; out = show repair.repaired.checked; notes = counts }

  row : HasRepaired P I found answer
  row = record {
    status_is = refl;
    out_is = ap show is.applied.program_is;
    notes_is =
        ap (λ (cs : List CloneOf). repair_counts (length found.reports) repair.plan (length cs)) is.applied.clones_are
        ∙ ap (λ (plan : Plan). repair_counts (length found.reports) plan (length (clone_numbers P (plan_for P found))))
        is.plan_is;
    cured = cured;
  }

  pub repaired : {out out_new : SinkState} → AppendsAll out out_new (show repair.repaired.checked)
      → GivesOnRun (HasRepaired P I found) false out out_new
      (Ok (results.Repair (length found.reports) repair.plan (length repair.repaired.clones)))
  repaired whole = λ old new met. wrote_whole answer row (results.Repair (length found.reports) repair.plan
      (length repair.repaired.clones)) refl refl refl whole

  pub repaired_part : {out out_new : SinkState} (given : Result Counts Status) → AppendsPrefix out out_new (show repair.repaired.checked)
      → IsErrAnd given (λ s. s ≡ statuses.WriteFault) → GivesOnRun (HasRepaired P I found) false out out_new given
  repaired_part {out} {out_new} given part exit = λ old new met.
      on_exit (λ (r : Result Counts Status). GivesResult (HasRepaired P I found) false old new out out_new r) given
      statuses.WriteFault exit (wrote_part answer row refl part)
