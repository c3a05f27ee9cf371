-- What was written of a repaired program, as a result of `thin`.
use Rattle.std.proofs.Common.{◌≡◌, ℕ, false, List, length, Ok, refl, sym, ap, ◌∙◌}
use Rattle.std.specs.Prelude.{Result}
use Rattle.std.specs.Result.{IsErrAnd}
use Rattle.hip_answers.specs.Answers.{Answer}
use Rattle.hip_answers.specs.declared.status.Status.{Status}
use Rattle.hip_answers.specs.declared.status.Status.TheVariants as statuses
use Rattle.hip_command_io.specs.Notes.{thin_counts}
use Rattle.hip_command_io.specs.ResultLaws.{on_exit}
use Rattle.hip_command_io.specs.Results.{GivesOnRun, GivesResult}
use Rattle.hip_command_io.specs.StageLaws.{wrote_part, wrote_whole}
use Rattle.hip_command_io.specs.declared.counts.Counts.{Counts}
use Rattle.hip_command_io.specs.declared.counts.Counts.TheVariants as results
use Rattle.hip_io.specs.Sinks.{AppendsAll, AppendsPrefix, SinkState}
use Rattle.hip_grammar.specs.Show.{show}
use Rattle.hip_tree.specs.declared.program.Program.{Program}
use Rattle.hip_repair_answers.specs.Laws.Repairs.{Makes}
use Rattle.hip_repairs.specs.Choice.{Contains, plan_for}
use Rattle.hip_repairs.specs.CloneNumbers.{clone_numbers}
use Rattle.hip_repairs.specs.declared.plan.CloneOf.{CloneOf}
use Rattle.hip_repairs.specs.declared.plan.Plan.{Plan}
use Rattle.hip_runs.specs.Found.Marks.{IsFound}
use Rattle.hip_runs.specs.Validity.{IsValid}
use Rattle.hip_runs.specs.declared.input.Input.{Input}
use Rattle.hip_runs.specs.declared.report.Findings.{Findings}
use Rattle.hip_run_repairs.specs.Spared.{spared_count}
use Rattle.hip_repair_commands.specs.Thin.{HasThinned, IsThinned, thinned_for}
use Rattle.hip_run_repairs.specs.RunRepairs.{IsThinnedFor}
use Rattle.hip_run_repairs.specs.declared.thin_run.Thinned.{Thinned}
use Rattle.hip_sound.specs.Sound.{IsSound}

-- A plan has each of its own sites.
pub itself : (plan : Plan) → Contains plan plan
itself plan = record { flush_after = λ s h. h; fence_after = λ s h. h; hoist = λ s h. h }

module _ (P : Program) (I : Input) (found : Findings) (thinned : Thinned) (is : IsThinnedFor P found thinned)
    (cured : IsThinned P I found) where
  -- How many reports, flushes, fences, hoisted calls, clones and spared stores there are.
  abbrev counts : List ℕ
  counts = thin_counts (length found.reports) thinned.repair.plan (length thinned.repair.repaired.clones) thinned.spared

  -- The answer of `thin`: the repaired program, and the counts on notes.
  abbrev answer : Answer
  answer = record { status = statuses.Done; out = show thinned.repair.repaired.checked; notes = counts }

  row : HasThinned P I found answer
  row = record {
    status_is = refl;
    out_is = ap show is.repair.applied.program_is;
    notes_is =
        ap (λ (n : ℕ). thin_counts (length found.reports) thinned.repair.plan (length thinned.repair.repaired.clones) n) is.spared_is
        ∙ ap (λ (cs : List CloneOf). thin_counts (length found.reports) thinned.repair.plan (length cs)
        (spared_count P (plan_for P found))) is.repair.applied.clones_are
        ∙ ap (λ (plan : Plan). thin_counts (length found.reports) plan (length (clone_numbers P (plan_for P found)))
        (spared_count P (plan_for P found))) is.repair.plan_is;
    cured = cured;
  }

  pub written : {out out_new : SinkState} → AppendsAll out out_new (show thinned.repair.repaired.checked)
      → GivesOnRun (HasThinned P I found) false out out_new
      (Ok (results.Thin (length found.reports) thinned.repair.plan (length thinned.repair.repaired.clones) thinned.spared))
  written whole = λ old new met. wrote_whole answer row (results.Thin (length found.reports) thinned.repair.plan
      (length thinned.repair.repaired.clones) thinned.spared) refl refl refl whole

  pub written_part : {out out_new : SinkState} (given : Result Counts Status) → AppendsPrefix out out_new (show thinned.repair.repaired.checked)
      → IsErrAnd given (λ s. s ≡ statuses.WriteFault) → GivesOnRun (HasThinned P I found) false out out_new given
  written_part {out} {out_new} given part exit = λ old new met.
      on_exit (λ (r : Result Counts Status). GivesResult (HasThinned P I found) false old new out out_new r) given
      statuses.WriteFault exit (wrote_part answer row refl part)

-- ---- the laws of the answers

pub alike : (P : Program) (I : Input) (found : Findings) (a b : Answer) → HasThinned P I found a → HasThinned P I found b → a ≡ b
alike P I found a b x y = λ i. record {
  status = (x.status_is ∙ sym y.status_is) i;
  out = (x.out_is ∙ sym y.out_is) i;
  notes = (x.notes_is ∙ sym y.notes_is) i;
}

pub thins : ((P : Program) (I : Input) (found : Findings) → IsSound P → IsValid P I → IsFound P I found → IsThinned P I found)
    → Makes HasThinned
thins cure P I found sound valid is = (
  record {
    status = statuses.Done;
    out = show (thinned_for P found);
    notes = thin_counts (length found.reports) (plan_for P found) (length (clone_numbers P (plan_for P found))) (spared_count P (plan_for P found));
  },
  refl,
  record { status_is = refl; out_is = refl; notes_is = refl; cured = cure P I found sound valid is },
)
