-- Plans that mend what a run found, whatever level they repair a report at.
use Rattle.std.specs.Prelude.{◌≡◌, ◌⊎◌, ℕ, suc, ◌<◌, true, Some, slice_get}
use Rattle.hip_tree.specs.Sites.{has_site}
use Rattle.hip_tree.specs.declared.site.Site.{Site}
use Rattle.hip_runs.specs.StoredParts.Parts.{In}
use Rattle.hip_runs.specs.declared.report.Findings.{Findings}
use Rattle.hip_runs.specs.declared.report.Kind.TheVariants.{MissingFlush}
use Rattle.hip_runs.specs.declared.report.Report.{Report}
use Rattle.hip_repairs.specs.declared.plan.Plan.{Plan}

-- The plan puts a fence after the flush that the report names.
pub record FencesFlush (plan : Plan) (r : Report) : Type 0 where
  pub site : Site
  pub at : r.flush_site ≡ Some site
  pub planned : has_site plan.fence_after site ≡ true

-- The plan puts a flush after the report's store, and a fence too unless only a flush is missing.
pub record FlushesStore (plan : Plan) (r : Report) : Type 0 where
  pub site : Site
  pub at : slice_get r.path 0 ≡ Some site
  pub planned : has_site plan.flush_after site ≡ true
  pub fence : (r.kind ≡ MissingFlush) ⊎ (has_site plan.fence_after site ≡ true)

-- The plan hoists one of the calls on the report's path that had returned.
pub record HoistsCall (plan : Plan) (r : Report) : Type 0 where
  pub number : ℕ
  pub returned : number < r.closed
  pub site : Site
  pub at : slice_get r.path (suc number) ≡ Some site
  pub planned : has_site plan.hoist site ≡ true

-- The plan mends the report in one of these ways.
abbrev pub Mends : Plan → Report → Type 0
Mends plan r = FencesFlush plan r ⊎ (FlushesStore plan r ⊎ HoistsCall plan r)

-- The plan mends each report that was found.
abbrev pub MendsAll : Plan → Findings → Type 0
MendsAll plan found = (r : Report) → In r found.reports → Mends plan r
