-- After a read fault the bytes of the trace that were taken show no misfit.
use Rattle.std.proofs.Common.{◌≡◌, ℕ, List, inl, inr, sym, ap, ◌∙◌}
use Rattle.hip_answers.specs.Answers.{Answer}
use Rattle.hip_answers.specs.Endings.{status_of_ending}
use Rattle.hip_answers.specs.RunLaws.OneAnswer.{hides_none}
use Rattle.hip_answers.specs.declared.status.Status.TheVariants as statuses
use Rattle.hip_run_commands.specs.Crash.{CrashTexts}
use Rattle.hip_run_commands.specs.ImagesAtEntries.{status_of_refusal}
use Rattle.hip_run_commands.specs.CrashLaws.{CrashFaultsHideNone}
use Rattle.hip_run_commands.specs.declared.image_refusal.ImageRefusal.{ImageRefusal}
use Rattle.hip_run_commands.specs.declared.image_refusal.ImageRefusal.TheVariants as images
use Rattle.hip_tree.specs.declared.program.Program.{Program}
use Rattle.hip_types.specs.declared.pick.Pick.{Pick}
use Rattle.hip_runs.specs.declared.event.Ending.{Ending}
use Rattle.hip_runs.specs.declared.event.Ending.TheVariants as endings
use Rattle.hip_runs.specs.declared.input.Input.{Input}
use Rattle.hip_runs.specs.declared.report.Findings.{Findings}

no_image_fault : (why : ImageRefusal) → status_of_refusal why ≡ statuses.ReadFault → ⊥
no_image_fault (images.NoEntry entries) e = cc
no_image_fault (images.BadPick why) e = cc

no_ending : (ending : Ending) → status_of_ending ending ≡ statuses.ReadFault → ⊥
no_ending (endings.Stop code) e = cc
no_ending (endings.Trap kind) e = cc
no_ending endings.Cut e = cc

no_text_fault : (entry : ℕ) (ps : List Pick) (P : Program) (I : Input) (found : Findings) (a : Answer)
    → CrashTexts entry ps P I found a → a.status ≡ statuses.ReadFault → ⊥
no_text_fault entry ps P I found a (inl u) e = no_image_fault u.why (sym (ap (λ (x : Answer). x.status) u.is) ∙ e)
no_text_fault entry ps P I found a (inr d) e = no_ending d.recorded.ending (sym d.recorded.status_is ∙ e)

pub faults_hide_none : CrashFaultsHideNone
faults_hide_none entry ps = hides_none (CrashTexts entry ps) (no_text_fault entry ps)
