-- The sites that a report needs in a plan.
use Rattle.std.specs.Prelude.{◌≡◌, ◌&&◌, ◌||◌, ℕ, Bool, cond, nat_eq, is_some, List, Option, None, slice_get}
use Rattle.hip_tree.specs.Sites.{has_site, instr_of}
use Rattle.hip_tree.specs.declared.program.Program.{Program}
use Rattle.hip_tree.specs.declared.site.Site.{Site}
use Rattle.hip_repairs.specs.Choice.{is_site}
use Rattle.hip_runs.specs.declared.report.Kind.{Kind}
use Rattle.hip_runs.specs.declared.report.Kind.TheVariants.{MissingFlush, MissingFence, MissingBoth}
use Rattle.hip_runs.specs.declared.report.Report.{Report}
use Rattle.hip_plan.specs.declared.plan_sites.PlanSites.{PlanSites}

-- The site of the store, if the report is repaired there.
abbrev pub store_at : ℕ → List Site → Option Site
store_at level path = cond (nat_eq level 0) (slice_get path 0) None

-- The site of the call of this level, if the report is repaired at a call.
abbrev pub call_at : ℕ → List Site → Option Site
call_at level path = cond (nat_eq level 0) None (slice_get path level)

-- The store after which a report needs a flush; none if only a fence is missing, or if a call is hoisted.
abbrev pub flush_asked : Kind → ℕ → List Site → Option Site
flush_asked MissingFence level path = None
flush_asked MissingFlush level path = store_at level path
flush_asked MissingBoth level path = store_at level path

-- The site after which a report needs a fence: the flush that lacks it, or the store if both are missing; none if only
-- a flush is missing, or if a call is hoisted for both.
abbrev pub fence_asked : Kind → ℕ → Option Site → List Site → Option Site
fence_asked MissingFence level flush path = flush
fence_asked MissingFlush level flush path = None
fence_asked MissingBoth level flush path = store_at level path

-- The call of the level that a report needs hoisted; none if only a fence is missing, or at level 0, which is the
-- store's.
abbrev pub hoist_asked : Kind → ℕ → List Site → Option Site
hoist_asked MissingFence level path = None
hoist_asked MissingFlush level path = call_at level path
hoist_asked MissingBoth level path = call_at level path

-- Whether the program has an instruction at the site.
abbrev pub is_there : Program → Site → Bool
is_there P s = is_some (instr_of P s)

-- A set of sites after a site was put in. It stays as it is if there is no site, or if the program has no instruction
-- there.
abbrev pub puts : Program → Option Site → List Site → List Site → Type 0
puts P asked old new = (s : Site) → has_site new s ≡ ((is_site asked s && is_there P s) || has_site old s)

-- The sites of a plan after those that a report needs, at its level, were put in.
pub record HasPutAsked (P : Program) (r : Report) (level : ℕ) (old new : PlanSites) : Type 0 where
  pub flushes : puts P (flush_asked r.kind level r.path) old.flush_after new.flush_after
  pub fences : puts P (fence_asked r.kind level r.flush_site r.path) old.fence_after new.fence_after
  pub hoists : puts P (hoist_asked r.kind level r.path) old.hoist new.hoist
