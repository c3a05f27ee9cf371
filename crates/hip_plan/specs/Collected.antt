-- The plan of collected sites.
use Rattle.std.specs.Prelude.{◌≡◌, true}
use Rattle.hip_repairs.specs.Suits.{is_ascending}
use Rattle.hip_repairs.specs.declared.plan.Plan.{Plan}
use Rattle.hip_plan.specs.declared.plan_sites.PlanSites.{PlanSites}

-- The plan has these sites, each list in ascending order.
pub record IsCollected (sites : PlanSites) (plan : Plan) : Type 0 where
  pub flushes_are : plan.flush_after ≡ sites.flush_after
  pub fences_are : plan.fence_after ≡ sites.fence_after
  pub hoists_are : plan.hoist ≡ sites.hoist
  pub flushes_ascend : is_ascending sites.flush_after ≡ true
  pub fences_ascend : is_ascending sites.fence_after ≡ true
  pub hoists_ascend : is_ascending sites.hoist ≡ true
