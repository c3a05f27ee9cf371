-- The calls that one repair hoisted stay covered after further repairs.
use Rattle.std.proofs.Common.{◌≡◌, suc, ◌<◌, Some, slice_get, refl, sym, ap, ◌∙◌, subst, arith}
use Rattle.hip_tree.specs.declared.program.Program.{Program}
use Rattle.hip_runs.specs.Step.{run}
use Rattle.hip_repairs.specs.Covered.{IsCovered}
use Rattle.hip_survival.specs.Laws.Places.{HasPlace}
use Rattle.hip_survival.specs.Laws.SameStores.{same_line, same_part, same_step}
use Rattle.hip_histories.specs.Chains.{StaysCovered}
use Rattle.hip_histories.proofs.Corresponding.{valid_back}
use Rattle.hip_histories.specs.NoHarm.{DoesNoHarm}

pub stays_covered : (P Q R : Program) → DoesNoHarm P Q → IsCovered P Q → StaysCovered P Q R
stays_covered P Q R d covered original I v along j n after last fence m l at k p there since =
    let same = along.matches (suc n) in
    let line = same_line (run R I (suc n)).lines (run Q I (along.steps_of (suc n))).lines same.lines m l at in
    let part = same_part l line.0 line.2 k p there in
    let step : part.0.step ≡ along.steps_of p.step =
    same_step Q R I along.steps_of along.onward (λ i. (along.matches i).lines) along.durable (suc n) m k p.step
    part.0.step
    (subst (λ o. HasPlace o k p.step) (sym at) (record { part = p; there = there; step_is = refl }))
    (subst (λ o. HasPlace o k part.0.step) (sym line.1) (record { part = part.0; there = part.1; step_is = refl })) in
    let before : slice_get (run Q I (suc (along.steps_of n))).lines m ≡ Some line.0 =
    ap (λ i. slice_get (run Q I i).lines m) (sym fence) ∙ line.1 in
    let durable : k < line.0.durable =
    covered.durable I (valid_back P Q d I v) j (along.steps_of n) after last m line.0 before k part.0 part.1
    (omega (arith, since, step)) in
    let more = (along.durable (suc n) m line.0 l line.1 at).1 in
    omega (arith, durable, more)
