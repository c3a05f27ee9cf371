-- What plans have: the sites that reports need, and the sites of two plans.
use Rattle.std.specs.Prelude.{◌≡◌, Bool, true, ◌||◌, List}
use Rattle.std.specs.List.{filter}
use Rattle.hip_tree.specs.Sites.{has_site, sites_of}
use Rattle.hip_tree.specs.declared.program.Program.{Program}
use Rattle.hip_tree.specs.declared.site.Site.{Site}
use Rattle.hip_runs.specs.declared.report.Findings.{Findings}
use Rattle.hip_repairs.specs.declared.plan.Plan.{Plan}
use Rattle.hip_repairs.specs.Choice.{wants_flush, wants_fence, wants_hoist, plan_for}

-- The sites of the list are the program's sites that pass the test.
pub record AreSites (P : Program) (test : Site → Bool) (list : List Site) : Type 0 where
  pub has : (s : Site) → has_site (sites_of P) s ≡ true → test s ≡ true → has_site list s ≡ true
  pub site : (s : Site) → has_site list s ≡ true → has_site (sites_of P) s ≡ true
  pub asked : (s : Site) → has_site list s ≡ true → test s ≡ true

-- Each list of the plan for what was found has the program's sites that some report needs there.
pub record IsAsked (P : Program) (found : Findings) : Type 0 where
  pub flushes : AreSites P (wants_flush P found) (plan_for P found).flush_after
  pub fences : AreSites P (wants_fence P found) (plan_for P found).fence_after
  pub hoists : AreSites P (wants_hoist P found) (plan_for P found).hoist

-- The program's sites that one of two lists has, in the program's order.
abbrev pub either_list : Program → List Site → List Site → List Site
either_list P xs ys = filter (λ s. has_site xs s || has_site ys s) (sites_of P)

-- The plan that has what one of two plans has.
abbrev pub union : Program → Plan → Plan → Plan
union P a b =
    record {
      flush_after = either_list P a.flush_after b.flush_after;
      fence_after = either_list P a.fence_after b.fence_after;
      hoist = either_list P a.hoist b.hoist;
    }

-- The plan names only sites of the program.
pub record PlanIsWithin (P : Program) (plan : Plan) : Type 0 where
  pub flush_after : (s : Site) → has_site plan.flush_after s ≡ true → has_site (sites_of P) s ≡ true
  pub fence_after : (s : Site) → has_site plan.fence_after s ≡ true → has_site (sites_of P) s ≡ true
  pub hoist : (s : Site) → has_site plan.hoist s ≡ true → has_site (sites_of P) s ≡ true
