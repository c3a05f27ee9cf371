-- Whether a plan mends a report, as tests.
use Rattle.std.specs.Prelude.{◌≡◌, ℕ, zero, suc, Bool, true, false, ◌&&◌, ◌||◌, List, [], ◌∷◌, Option, Some, None}
use Rattle.hip_tree.specs.Sites.{has_site}
use Rattle.hip_tree.specs.declared.site.Site.{Site}
use Rattle.hip_runs.specs.declared.report.Kind.{Kind}
use Rattle.hip_runs.specs.declared.report.Kind.TheVariants.{MissingFlush, MissingFence, MissingBoth}
use Rattle.hip_runs.specs.declared.report.Report.{Report}
use Rattle.hip_repairs.specs.declared.plan.Plan.{Plan}
use Rattle.hip_many.specs.declared.mending.Planned.{Planned}

-- The sites of the plan.
pub record IsPlanned (plan : Plan) (planned : Planned) : Type 0 where
  pub flushes : has_site planned.flush_after ≡ has_site plan.flush_after
  pub fences : has_site planned.fence_after ≡ has_site plan.fence_after
  pub hoists : has_site planned.hoist ≡ has_site plan.hoist

-- There is a site, and it passes the test.
abbrev pub passes_at : (Site → Bool) → Option Site → Bool
passes_at test None = false
passes_at test (Some s) = test s

-- Only a flush is missing.
abbrev pub only_flush : Kind → Bool
only_flush MissingFlush = true
only_flush MissingFence = false
only_flush MissingBoth = false

-- One of the first n sites passes the test.
abbrev pub any_among : (Site → Bool) → ℕ → List Site → Bool
any_among test zero sites = false
any_among test (suc n) [] = false
any_among test (suc n) (s ∷ sites) = test s || any_among test n sites

-- The store has a flush, and a fence too unless only a flush is missing.
abbrev pub flushes_store : (Site → Bool) → (Site → Bool) → Kind → Site → Bool
flushes_store flush fence kind store = flush store && (only_flush kind || fence store)

-- The store is flushed so, or one of the `closed` innermost calls is hoisted.
abbrev pub on_path : (Site → Bool) → (Site → Bool) → (Site → Bool) → Kind → ℕ → List Site → Bool
on_path flush fence hoist kind closed [] = any_among hoist closed []
on_path flush fence hoist kind closed (store ∷ calls) =
    flushes_store flush fence kind store || any_among hoist closed calls

-- The flush that the report names has a fence, or the report is mended on its path.
abbrev pub mends_with : (Site → Bool) → (Site → Bool) → (Site → Bool) → Report → Bool
mends_with flush fence hoist r =
    passes_at fence r.flush_site || on_path flush fence hoist r.kind r.closed r.path

-- The report is mended by the sites of a plan.
abbrev pub mends_by : Planned → Report → Bool
mends_by planned r = mends_with (has_site planned.flush_after) (has_site planned.fence_after) (has_site planned.hoist) r
