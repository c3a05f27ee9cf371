use Rattle.std.proofs.Common.{◌≡◌, sym, ap, ◌∙◌}
use Rattle.hip_tree.specs.declared.program.Program.{Program}
use Rattle.hip_sound.specs.Laws.SoundExact.{sound-passes}
use Rattle.hip_fix.specs.SuitsTest as test
use Rattle.hip_repairs.specs.Laws.Callable.{callable_of}
use Rattle.hip_fix.proofs.Suited.{passes_suits, suits_passes}
use Rattle.hip_fix.proofs.plan_check.suits.Goals as goal

pub returns : goal.returns
returns c =
    let P = c.args.checked.now in
    let plan = c.args.plan.now in
    let stated : c.passes.result ≡ test.passes P plan = c.passes.ensures ∙ ap (λ (p : Program). test.passes p plan) c.program.ensures.is in
    let callable = callable_of P (sound-passes P c.program.ensures.sound) in
    (λ t. passes_suits P callable plan (sym stated ∙ t), λ s. stated ∙ suits_passes P callable plan s)
