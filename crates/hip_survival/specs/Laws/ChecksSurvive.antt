-- If a run has nothing to report, each byte that it checks survives a crash at its check.
use Rattle.std.proofs.Common.{◌≡◌, ℕ, suc, Bool, List, [], ◌∷◌, ◌++◌, sym, ap, ◌∙◌}
use Rattle.hip_tree.specs.declared.program.Program.{Program}
use Rattle.hip_tree.specs.declared.site.Site.{Site}
use Rattle.hip_sound.specs.Sound.{IsSound}
use Rattle.hip_runs.specs.Found.Marks.{IsFound}
use Rattle.hip_runs.specs.Found.Reports.{check_reports, next_check, reports}
use Rattle.hip_runs.specs.Step.{run}
use Rattle.hip_runs.specs.Validity.{IsValid}
use Rattle.hip_runs.specs.declared.input.Input.{Input}
use Rattle.hip_runs.specs.declared.report.Findings.{Findings}
use Rattle.hip_repairs.specs.Choice.{Contains, plan_for}
use Rattle.hip_repairs.specs.Clean.{IsClean}
use Rattle.hip_repairs.specs.Laws.Unchanged.{valid_again}
use Rattle.hip_repairs.specs.StayOutside.{StayOutside}
use Rattle.hip_repairs.specs.Repaired.{repaired}
use Rattle.hip_repairs.specs.declared.plan.Plan.{Plan}
use Rattle.hip_repairs.proofs.Theorems.{repaired_is_sound, repairs_are_clean}
use Rattle.hip_survival.specs.Laws.CheckedBytes.{checked_survives}
use Rattle.hip_survival.specs.Laws.StopImage.{stop_image}
use Rattle.hip_survival.specs.Kept.{ChecksSurvive}

none_past : {A : Type 0} (xs ys : List A) → xs ++ ys ≡ [] → ys ≡ []
none_past [] ys e = e
none_past (x ∷ xs) ys e = absurd (let z : ⊥ = cc in z)

pub none_reported : (P : Program) (I : Input) → IsClean P I → (n : ℕ)
    → check_reports (run P I n) (next_check P I (run P I n)) ≡ []
unfolding reports
none_reported P I clean n =
    none_past (reports P I n) (check_reports (run P I n) (next_check P I (run P I n))) (clean (suc n))

pub clean_survives : (P : Program) → IsSound P → (I : Input) → IsValid P I → IsClean P I → ChecksSurvive P I
clean_survives P s I v clean = record {
  bytes = λ n range e b low high.
      checked_survives P s I v n range e (ap (check_reports (run P I n)) (sym e) ∙ none_reported P I clean n) b
      low high;
  stop = λ n code going e. stop_image P s I v n code going e (none_reported P I clean n);
}

pub repaired_survives : (P : Program) (plan : Plan) (skip : Site → Bool) (I : Input) (found : Findings)
    → IsSound P → IsValid P I → StayOutside P skip → IsFound P I found → Contains plan (plan_for P found)
    → ChecksSurvive (repaired P plan skip) I
repaired_survives P plan skip I found s v quiet is has =
    clean_survives (repaired P plan skip) (repaired_is_sound P plan skip s) I (valid_again P plan skip I v)
    (repairs_are_clean P plan skip I found s v quiet is has)
