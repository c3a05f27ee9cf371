-- What is counted of a program that was repaired and run again.
use Rattle.std.proofs.Common.{◌≡◌, ℕ, length, ap, ◌∙◌, subst}
use Rattle.hip_demo.specs.Demo.{HasShown}
use Rattle.hip_demo.specs.Replays.{HasFoundAgain, HasKept}
use Rattle.hip_demo.specs.declared.replayed.Kept.{Kept}
use Rattle.hip_demo.specs.declared.shown.Shown.{Shown}
use Rattle.hip_tree.specs.declared.program.Program.{Program}
use Rattle.hip_repair_answers.specs.Cured.{IsCured, repaired_for}
use Rattle.hip_run_repairs.specs.RunRepairs.{IsRepairFor}
use Rattle.hip_run_repairs.specs.declared.one_run.Repair.{Repair}
use Rattle.hip_repairs.specs.declared.plan.Plan.{Plan}
use Rattle.hip_replay.specs.declared.compared.Replayed.{Replayed}
use Rattle.hip_runs.specs.declared.input.Input.{Input}
use Rattle.hip_runs.specs.declared.report.Findings.{Findings}

abbrev counts : ℕ → ℕ → Plan → ℕ → ℕ → ℕ → Shown
counts entries reports plan clones rerun after =
    record { entries = entries; reports = reports; plan = plan; clones = clones; rerun = rerun; after = after }

same_shown : {e e' r r' c c' m m' a a' : ℕ} {p p' : Plan} → e ≡ e' → r ≡ r' → p ≡ p' → c ≡ c' → m ≡ m' → a ≡ a'
    → counts e r p c m a ≡ counts e' r' p' c' m' a'
same_shown e r p c m a = cc

pub shows : (P : Program) (I : Input) (replayed : Replayed) (repair : Repair) (kept : Kept)
    (reports clones after : ℕ) → IsCured P I replayed.findings → HasFoundAgain P I replayed
    → IsRepairFor P replayed.findings repair → HasKept repair.repaired.checked I kept
    → reports ≡ length replayed.findings.reports → clones ≡ length repair.repaired.clones
    → after ≡ length kept.recorded.findings.reports
    → HasShown P I (counts replayed.entries reports repair.plan clones kept.recorded.entries after)
shows P I replayed repair kept reports clones after cured f made k some many left =
    let again : HasKept (repaired_for P replayed.findings) I kept = subst (λ R. HasKept R I kept) made.applied.program_is k in
    record {
      found = replayed.findings;
      found_is = f.found;
      trace = f.trace;
      is_trace = f.is_trace;
      cured = cured;
      after = kept.recorded.findings;
      after_is = again.found;
      none_left = ap (λ (g : Findings). g.reports) again.found.is ∙ cured.clean again.found.steps;
      rerun = again.trace;
      is_rerun = again.is_trace;
      shown_is = same_shown f.entries some made.plan_is (many ∙ ap (λ cs. length cs) made.applied.clones_are) again.entries left;
    }
