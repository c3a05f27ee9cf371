-- The three lists have what the reports so far ask for.
use Rattle.std.proofs.Common.{◌≡◌, ℕ, ◌&&◌, ◌||◌, List, [], ◌∷◌, Option, sym, ap, ◌∙◌, subst}
use Rattle.std.specs.Prelude.{IfOk, Result, Ok, Err}
use Rattle.hip_tree.specs.Sites.{has_site}
use Rattle.hip_tree.specs.declared.program.Program.{Program}
use Rattle.hip_tree.specs.declared.site.Site.{Site}
use Rattle.hip_runs.specs.declared.input.Input.{Input}
use Rattle.hip_runs.specs.declared.report.Findings.{Findings}
use Rattle.hip_runs.specs.declared.report.Report.{Report}
use Rattle.hip_runs.specs.Found.Marks.{IsFound}
use Rattle.hip_repairs.specs.Choice.{asks_fence, asks_flush, asks_hoist, choice, is_site, plan_for}
use Rattle.hip_repairs.specs.Suits.{IsSuiting}
use Rattle.hip_repairs.specs.Laws.PlanLaws.{plan_suits}
use Rattle.hip_repairs.specs.declared.plan.Plan.{Plan}
use Rattle.hip_plan.specs.Asked.{fence_asked, flush_asked, hoist_asked, is_there, puts}
use Rattle.hip_plan.specs.Collected.{IsCollected}
use Rattle.hip_plan.specs.declared.plan_sites.PlanSites.{PlanSites}
use Rattle.hip_plan.proofs.Listed.{all_left, asked_more, fence_is, flush_is, hoist_is, plan_is, whole}
use Rattle.hip_plan.proofs.findings_plan.plan.Goals as goal

-- If A implies B, an answer that meets A meets B.
if_ok : {T E : Type 0} (A B : T → Type 0) → ((x : T) → A x → B x) → (r : Result T E) → IfOk r A → IfOk r B
if_ok A B f (Ok x) a = f x a
if_ok A B f (Err e) a = a

pub each-init : goal.each-init
each-init c =
    let P : Program = c.args.checked.now in
    let found : Findings = c.args.findings.now in
    let reports = found.reports in
    let all = c.into_iter-report-iterator.ensures.into_iter_gives ∙ c.iter-report-items.ensures ∙ c.reports.ensures in
    let none = c.new-sites.ensures in
    record {
      flushes = all_left P (λ r s. asks_flush r.kind (choice P found r) r.path s) reports c.into_iter-report-iterator.result c.new-sites.result.flush_after all (ap (λ (x : PlanSites). x.flush_after) none);
      fences = all_left P (λ r s. asks_fence r.kind (choice P found r) r.flush_site r.path s) reports c.into_iter-report-iterator.result c.new-sites.result.fence_after all (ap (λ (x : PlanSites). x.fence_after) none);
      hoists = all_left P (λ r s. asks_hoist r.kind (choice P found r) r.path s) reports c.into_iter-report-iterator.result c.new-sites.result.hoist all (ap (λ (x : PlanSites). x.hoist) none);
    }

pub each-preserved : goal.each-preserved
each-preserved c =
    let P : Program = c.args.checked.now in
    let found : Findings = c.args.findings.now in
    let reports = found.reports in
    let r : Report = c.in-Some.report in
    let n : ℕ = c.choose_by-level.result in
    let left : List Report = c.each.report-iterator in
    let rest : List Report = c.next.new.self in
    let are : left ≡ r ∷ rest = c.in-Some.ensures.steps in
    let level : n ≡ choice P found r = c.choose_by-level.ensures ∙ ap (λ (f : Findings). choice P f r) c.in_ok-worths.ensures in
    let put = λ (o : Option Site) (old new : List Site) (stated : puts c.program-program.result.now o old new) (s : Site).
    stated s ∙ ap (λ (p : Program). (is_site o s && is_there p s) || has_site old s) c.program-program.ensures.is in
    let stated = c.in_ok-add_asked.ensures in
    record {
      flushes =
          asked_more P (λ x s. asks_flush x.kind (choice P found x) x.path s) reports left rest r (flush_asked r.kind n r.path) c.each.sites.flush_after c.add_asked.new.sites.flush_after are
          (λ s. flush_is r.kind n r.path s ∙ ap (λ (k : ℕ). asks_flush r.kind k r.path s) level)
          (put (flush_asked r.kind n r.path) c.each.sites.flush_after c.add_asked.new.sites.flush_after stated.flushes) c.each.invariant.flushes;
      fences =
          asked_more P (λ x s. asks_fence x.kind (choice P found x) x.flush_site x.path s) reports left rest r (fence_asked r.kind n r.flush_site r.path) c.each.sites.fence_after c.add_asked.new.sites.fence_after are
          (λ s. fence_is r.kind n r.flush_site r.path s ∙ ap (λ (k : ℕ). asks_fence r.kind k r.flush_site r.path s) level)
          (put (fence_asked r.kind n r.flush_site r.path) c.each.sites.fence_after c.add_asked.new.sites.fence_after stated.fences) c.each.invariant.fences;
      hoists =
          asked_more P (λ x s. asks_hoist x.kind (choice P found x) x.path s) reports left rest r (hoist_asked r.kind n r.path) c.each.sites.hoist c.add_asked.new.sites.hoist are
          (λ s. hoist_is r.kind n r.path s ∙ ap (λ (k : ℕ). asks_hoist r.kind k r.path s) level)
          (put (hoist_asked r.kind n r.path) c.each.sites.hoist c.add_asked.new.sites.hoist stated.hoists) c.each.invariant.hoists;
    }

pub returns-clause-is : goal.returns-clause-is
returns-clause-is c =
    let P : Program = c.args.checked.now in
    let found : Findings = c.args.findings.now in
    let reports = found.reports in
    let left : List Report = c.each.report-iterator in
    let none : left ≡ [] = c.in-None.ensures.steps.0 in
    if_ok (IsCollected c.each.sites) (λ (plan : Plan). plan ≡ plan_for P found)
    (λ plan h. plan_is P found _ _ _
    (h.flushes_are ∙ whole P (λ x s. asks_flush x.kind (choice P found x) x.path s) reports left c.each.sites.flush_after none c.each.invariant.flushes h.flushes_ascend)
    (h.fences_are ∙ whole P (λ x s. asks_fence x.kind (choice P found x) x.flush_site x.path s) reports left c.each.sites.fence_after none c.each.invariant.fences h.fences_ascend)
    (h.hoists_are ∙ whole P (λ x s. asks_hoist x.kind (choice P found x) x.path s) reports left c.each.sites.hoist none c.each.invariant.hoists h.hoists_ascend))
    c.to_plan.result c.to_plan.ensures

pub returns-clause-suits : goal.returns-clause-suits
returns-clause-suits c =
    let P : Program = c.args.checked.now in
    let found : Findings = c.args.findings.now in
    if_ok (λ (plan : Plan). plan ≡ plan_for P found) (λ (plan : Plan). (I : Input) → IsFound P I found → IsSuiting P plan)
    (λ plan is I is_found. subst (λ (p : Plan). IsSuiting P p) (sym is) (plan_suits P I found is_found))
    c.to_plan.result (returns-clause-is c)
