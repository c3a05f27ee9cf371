-- Each list is that of its set.
use Rattle.hip_plan.proofs.plan_sites.PlanSites.to_plan.Goals as goal

pub returns : goal.returns
returns c = record {
  flushes_are = c.in_ok-to_row.ensures.sites;
  fences_are = c.in_ok-to_row-2.ensures.sites;
  hoists_are = c.in_ok-to_row-3.ensures.sites;
  flushes_ascend = c.in_ok-to_row.ensures.ascending;
  fences_ascend = c.in_ok-to_row-2.ensures.ascending;
  hoists_ascend = c.in_ok-to_row-3.ensures.ascending;
}
