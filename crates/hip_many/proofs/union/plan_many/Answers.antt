-- The three lists have what the plans have, so the union does for each run what the plan of that run does.
use Rattle.std.proofs.Common.{◌||◌, [], Bool, ap, ◌∙◌}
use Rattle.std.specs.Prelude.{IfOk, Result, Ok, Err}
use Rattle.hip_tree.specs.Sites.{has_site}
use Rattle.hip_tree.specs.declared.program.Program.{Program}
use Rattle.hip_tree.specs.declared.site.Site.{Site}
use Rattle.hip_sound.specs.Sound.{IsSound}
use Rattle.hip_runs.specs.Found.Marks.{IsFound}
use Rattle.hip_runs.specs.StoredParts.Parts.{In}
use Rattle.hip_runs.specs.Validity.{IsValid}
use Rattle.hip_runs.specs.declared.input.Input.{Input}
use Rattle.hip_runs.specs.declared.report.Findings.{Findings}
use Rattle.hip_repairs.specs.Choice.{Contains, plan_for}
use Rattle.hip_repairs.specs.Clean.{IsClean}
use Rattle.hip_repairs.specs.StayOutside.{StayOutside}
use Rattle.hip_repairs.specs.Repaired.{repaired}
use Rattle.hip_repairs.specs.Suits.{IsSuiting}
use Rattle.hip_repairs.specs.declared.plan.Plan.{Plan}
use Rattle.hip_plan.specs.Collected.{IsCollected}
use Rattle.hip_many.specs.Union.{IsUnion}
use Rattle.hip_many.proofs.Unions.{one_put, united, union_contains, union_suits}
use Rattle.hip_many.proofs.union.plan_many.Goals as goal

-- If A implies B, an answer that meets A meets B.
if_ok : {T E : Type 0} (A B : T → Type 0) → ((x : T) → A x → B x) → (r : Result T E) → IfOk r A → IfOk r B
if_ok A B f (Ok x) a = f x a
if_ok A B f (Err e) a = a

pub each-preserved : goal.each-preserved
each-preserved c =
    let plans = c.args.plans.now in
    let i = c.each.plan-index in
    let put = c.in_ok-add_plan.ensures in
    let new = c.add_plan.new.sites in
    record {
      flushes = one_put (λ p s. has_site p.flush_after s) plans i c.plan-item.result [] c.each.sites.flush_after new.flush_after c.each-test.true (λ s. put.flushes s ∙ ap (λ (p : Plan). has_site p.flush_after s || has_site c.each.sites.flush_after s) c.plan-item.is) c.each.invariant.flushes;
      fences = one_put (λ p s. has_site p.fence_after s) plans i c.plan-item.result [] c.each.sites.fence_after new.fence_after c.each-test.true (λ s. put.fences s ∙ ap (λ (p : Plan). has_site p.fence_after s || has_site c.each.sites.fence_after s) c.plan-item.is) c.each.invariant.fences;
      hoists = one_put (λ p s. has_site p.hoist s) plans i c.plan-item.result [] c.each.sites.hoist new.hoist c.each-test.true (λ s. put.hoists s ∙ ap (λ (p : Plan). has_site p.hoist s || has_site c.each.sites.hoist s) c.plan-item.is) c.each.invariant.hoists;
    }

pub returns-clause-union : goal.returns-clause-union
returns-clause-union c =
    let plans = c.args.plans.now in
    if_ok (IsCollected c.each.sites) (IsUnion plans)
    (λ plan h. record {
      flush_after = united (λ p. p.flush_after) plans c.each.plan-index c.each.sites.flush_after plan.flush_after c.each-test.false c.each.invariant.flushes h.flushes_are h.flushes_ascend;
      fence_after = united (λ p. p.fence_after) plans c.each.plan-index c.each.sites.fence_after plan.fence_after c.each-test.false c.each.invariant.fences h.fences_are h.fences_ascend;
      hoist = united (λ p. p.hoist) plans c.each.plan-index c.each.sites.hoist plan.hoist c.each-test.false c.each.invariant.hoists h.hoists_are h.hoists_ascend;
    })
    c.to_plan.result c.to_plan.ensures

pub returns-clause-contains : goal.returns-clause-contains
returns-clause-contains c =
    let plans = c.args.plans.now in
    if_ok (IsUnion plans) (λ (plan : Plan). (part : Plan) → In part plans → Contains plan part) (λ plan union. union_contains plans plan union) c.to_plan.result (returns-clause-union c)

pub returns-clause-suits : goal.returns-clause-suits
returns-clause-suits c =
    let plans = c.args.plans.now in
    if_ok (IsUnion plans) (λ (plan : Plan). (P : Program) → ((part : Plan) → In part plans → IsSuiting P part) → IsSuiting P plan)
    (λ plan union. union_suits plans plan union) c.to_plan.result (returns-clause-union c)

pub returns-clause-clean : goal.returns-clause-clean
returns-clause-clean c =
    let plans = c.args.plans.now in
    if_ok (IsUnion plans)
    (λ (plan : Plan). (P : Program) → (skip : Site → Bool) → (I : Input) → (found : Findings) →
    IsSound P → IsValid P I → StayOutside P skip → IsFound P I found → In (plan_for P found) plans → IsClean (repaired P plan skip) I)
    (λ plan union P skip I found sound valid quiet is_found i.
    c.repairs_are_clean.ensures P plan skip I found sound valid quiet is_found (union_contains plans plan union (plan_for P found) i))
    c.to_plan.result (returns-clause-union c)
