-- The union of plans.
use Rattle.std.specs.Prelude.{◌≡◌, ◌||◌, true, List}
use Rattle.std.specs.List.{list_any}
use Rattle.hip_tree.specs.Sites.{has_site}
use Rattle.hip_tree.specs.declared.site.Site.{Site}
use Rattle.hip_repairs.specs.Suits.{is_ascending}
use Rattle.hip_repairs.specs.declared.plan.Plan.{Plan}
use Rattle.hip_plan.specs.declared.plan_sites.PlanSites.{PlanSites}

-- The list ascends, and has exactly the sites that some plan has in its list.
pub record HasAll (sites_in : Plan → List Site) (plans : List Plan) (list : List Site) : Type 0 where
  pub ascends : is_ascending list ≡ true
  pub has : (s : Site) → has_site list s ≡ list_any (λ p. has_site (sites_in p) s) plans

-- The union of plans, list by list.
pub record IsUnion (plans : List Plan) (plan : Plan) : Type 0 where
  pub flush_after : HasAll (λ p. p.flush_after) plans plan.flush_after
  pub fence_after : HasAll (λ p. p.fence_after) plans plan.fence_after
  pub hoist : HasAll (λ p. p.hoist) plans plan.hoist

-- The sites of a plan were put in.
pub record HasPutPlan (plan : Plan) (old new : PlanSites) : Type 0 where
  pub flushes : (s : Site)
      → has_site new.flush_after s ≡ (has_site plan.flush_after s || has_site old.flush_after s)
  pub fences : (s : Site) → has_site new.fence_after s ≡ (has_site plan.fence_after s || has_site old.fence_after s)
  pub hoists : (s : Site) → has_site new.hoist s ≡ (has_site plan.hoist s || has_site old.hoist s)
