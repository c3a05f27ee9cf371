-- The plan for what a run found names only sites that a report of the run names.
use Rattle.std.proofs.Common.{◌≡◌, ◌⊎◌, inl, inr, ℕ, zero, suc, true, nat_eq, List, Option, Some, None, slice_get, sym, ap}
use Rattle.hip_tree.specs.Laws.SiteLaws.{same_site_equal}
use Rattle.hip_tree.specs.declared.program.Program.{Program}
use Rattle.hip_tree.specs.declared.site.Site.{Site}
use Rattle.hip_runs.specs.Laws.Members.{any_in, both_true}
use Rattle.hip_runs.specs.declared.report.Findings.{Findings}
use Rattle.hip_runs.specs.declared.report.Kind.{Kind}
use Rattle.hip_runs.specs.declared.report.Kind.TheVariants.{MissingFlush, MissingFence, MissingBoth}
use Rattle.hip_repairs.specs.Choice.{asks_fence, asks_flush, asks_hoist, choice, is_site, plan_for}
use Rattle.hip_repairs.specs.Laws.SiteOrder.{plan_asked}
use Rattle.hip_repair_laws.specs.Local.{IsPlanned, IsReportedSite}

the_site : (o : Option Site) (s : Site) → is_site o s ≡ true → o ≡ Some s
the_site None s e = absurd (let z : ⊥ = cc in z)
the_site (Some t) s e = ap Some (sym (same_site_equal s t e))

flush_at : (kind : Kind) (level : ℕ) (path : List Site) (s : Site) → asks_flush kind level path s ≡ true
    → (k : ℕ) × (slice_get path k ≡ Some s)
flush_at MissingFence level path s e = absurd (let z : ⊥ = cc in z)
flush_at MissingFlush level path s e = (0, the_site (slice_get path 0) s (both_true (nat_eq level 0) _ e).1)
flush_at MissingBoth level path s e = (0, the_site (slice_get path 0) s (both_true (nat_eq level 0) _ e).1)

fence_at : (kind : Kind) (level : ℕ) (flush : Option Site) (path : List Site) (s : Site)
    → asks_fence kind level flush path s ≡ true → ((k : ℕ) × (slice_get path k ≡ Some s)) ⊎ (flush ≡ Some s)
fence_at MissingFence level flush path s e = inr (the_site flush s e)
fence_at MissingFlush level flush path s e = absurd (let z : ⊥ = cc in z)
fence_at MissingBoth level flush path s e = inl (0, the_site (slice_get path 0) s (both_true (nat_eq level 0) _ e).1)

hoist_at : (kind : Kind) (level : ℕ) (path : List Site) (s : Site) → asks_hoist kind level path s ≡ true
    → (k : ℕ) × (slice_get path k ≡ Some s)
hoist_at MissingFence level path s e = absurd (let z : ⊥ = cc in z)
hoist_at MissingFlush zero path s e = absurd (let z : ⊥ = cc in z)
hoist_at MissingFlush (suc level) path s e = (suc level, the_site (slice_get path (suc level)) s e)
hoist_at MissingBoth zero path s e = absurd (let z : ⊥ = cc in z)
hoist_at MissingBoth (suc level) path s e = (suc level, the_site (slice_get path (suc level)) s e)

module _ (P : Program) (found : Findings) (s : Site) where
  pub planned_reported : IsPlanned (plan_for P found) s → IsReportedSite found s
  planned_reported (inl h) =
      let r = any_in (λ r. asks_flush r.kind (choice P found r) r.path s) found.reports ((plan_asked P found).flushes.asked s h) in
      record { report = r.0; there = r.1; named = inl (flush_at r.0.kind (choice P found r.0) r.0.path s r.2) }
  planned_reported (inr (inl h)) =
      let r = any_in (λ r. asks_fence r.kind (choice P found r) r.flush_site r.path s) found.reports
      ((plan_asked P found).fences.asked s h) in
      record { report = r.0; there = r.1; named = fence_at r.0.kind (choice P found r.0) r.0.flush_site r.0.path s r.2 }
  planned_reported (inr (inr h)) =
      let r = any_in (λ r. asks_hoist r.kind (choice P found r) r.path s) found.reports ((plan_asked P found).hoists.asked s h) in
      record { report = r.0; there = r.1; named = inl (hoist_at r.0.kind (choice P found r.0) r.0.path s r.2) }
