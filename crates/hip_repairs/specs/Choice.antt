-- The plan for what a run found: at which level each report is repaired, and the sites of the repairs. (The three
-- sorts of repair are the Hippocrates paper's; the choice of the level is this project's own.)
use Rattle.std.specs.Prelude.{◌≡◌, ℕ, zero, suc, Bool, true, false, cond, ◌&&◌, nat_eq, List, [], ◌∷◌, Option, Some, None, slice_get, ℤ, int_lt}
use Rattle.std.specs.List.{list_any, filter}
use Rattle.hip_tree.specs.Sites.{same_site, has_site, sites_of}
use Rattle.hip_tree.specs.declared.program.Program.{Program}
use Rattle.hip_tree.specs.declared.site.Site.{Site}
use Rattle.hip_runs.specs.declared.report.Findings.{Findings}
use Rattle.hip_runs.specs.declared.report.Kind.{Kind}
use Rattle.hip_runs.specs.declared.report.Kind.TheVariants.{MissingFlush, MissingFence, MissingBoth}
use Rattle.hip_runs.specs.declared.report.Report.{Report}
use Rattle.hip_runs.specs.Found.Scores.{score}
use Rattle.hip_repairs.specs.declared.plan.Plan.{Plan}

-- A level, and its score.
pub record Candidate : Type 0 where
  pub level : ℕ
  pub score : Option ℤ

-- Whether the second score is better: any score is better than none, and a greater score is better than a smaller one.
abbrev pub is_better : Option ℤ → Option ℤ → Bool
is_better None (Some b) = true
is_better (Some a) (Some b) = int_lt a b
is_better _ None = false

-- The candidate with the greater score; the first one if the scores are equal or neither has a score.
abbrev pub better : Candidate → Candidate → Candidate
better best new = cond (is_better best.score new.score) new best

-- The best of a candidate and of the sites at the front of a path, as many as given. The levels of these sites are
-- numbered from the given level on.
abbrev pub best_of : Program → Findings → Candidate → ℕ → ℕ → List Site → Candidate
best_of P found best level zero path = best
best_of P found best level (suc more) [] = best
best_of P found best level (suc more) (site ∷ path) =
    best_of P found (better best (record { level = level; score = score P found site })) (suc level) more path

-- The level of the greatest score on a path: the first site, the store, has level 0, and the first `closed` calls after
-- it have the levels from 1 on. It is the innermost of these levels if scores are equal, and 0 if the path is empty.
abbrev pub best_on : Program → Findings → ℕ → List Site → ℕ
best_on P found closed [] = 0
best_on P found closed (store ∷ calls) =
    (best_of P found (record { level = 0; score = score P found store }) 1 closed calls).level

-- The level of the greatest score among the store, which has level 0, and the calls that had returned and have a
-- pointer operand; the innermost one if scores are equal. A missing fence needs no level.
abbrev pub level_for : Program → Findings → Report → Kind → ℕ
level_for P found r MissingFence = 0
level_for P found r MissingFlush = best_on P found r.closed r.path
level_for P found r MissingBoth = best_on P found r.closed r.path

-- The level at which a report is repaired: 0 at its store, n at the n-th call outward from it. If only a fence is
-- missing it is 0, and is not used.
abbrev pub choice : Program → Findings → Report → ℕ
choice P found r = level_for P found r r.kind

-- ---- what a report needs

-- Whether there is a site, and it is this one.
abbrev pub is_site : Option Site → Site → Bool
is_site None s = false
is_site (Some t) s = same_site s t

-- Whether a report that is repaired at a level needs a flush after a site.
abbrev pub asks_flush : Kind → ℕ → List Site → Site → Bool
asks_flush MissingFence level path s = false
asks_flush MissingFlush level path s = nat_eq level 0 && is_site (slice_get path 0) s
asks_flush MissingBoth level path s = nat_eq level 0 && is_site (slice_get path 0) s

-- Whether a report that is repaired at a level needs a fence after a site: after the flush that the report names, if
-- only the fence is missing; after the store at level 0, if both are missing.
abbrev pub asks_fence : Kind → ℕ → Option Site → List Site → Site → Bool
asks_fence MissingFence level flush path s = is_site flush s
asks_fence MissingFlush level flush path s = false
asks_fence MissingBoth level flush path s = nat_eq level 0 && is_site (slice_get path 0) s

-- Whether a report that is repaired at a level needs the call at a site hoisted: the call of that level on the path, if
-- a flush is missing and the level is not 0.
abbrev pub asks_hoist : Kind → ℕ → List Site → Site → Bool
asks_hoist MissingFence level path s = false
asks_hoist MissingFlush zero path s = false
asks_hoist MissingFlush (suc level) path s = is_site (slice_get path (suc level)) s
asks_hoist MissingBoth zero path s = false
asks_hoist MissingBoth (suc level) path s = is_site (slice_get path (suc level)) s

-- Some report, repaired at its own level, needs a flush after the site.
abbrev pub wants_flush : Program → Findings → Site → Bool
wants_flush P found s = list_any (λ r. asks_flush r.kind (choice P found r) r.path s) found.reports

-- Some report, repaired at its own level, needs a fence after the site. The site is the flush that the report names, or
-- its store.
abbrev pub wants_fence : Program → Findings → Site → Bool
wants_fence P found s = list_any (λ r. asks_fence r.kind (choice P found r) r.flush_site r.path s) found.reports

-- Some report, repaired at its own level, needs the call at the site hoisted.
abbrev pub wants_hoist : Program → Findings → Site → Bool
wants_hoist P found s = list_any (λ r. asks_hoist r.kind (choice P found r) r.path s) found.reports

-- The plan: in each list the sites that some report needs there, in the program's order.
abbrev pub plan_for : Program → Findings → Plan
plan_for P found =
    record {
      flush_after = filter (wants_flush P found) (sites_of P);
      fence_after = filter (wants_fence P found) (sites_of P);
      hoist = filter (wants_hoist P found) (sites_of P);
    }

-- The first plan has each site of the second.
pub record Contains (plan part : Plan) : Type 0 where
  pub flush_after : (s : Site) → has_site part.flush_after s ≡ true → has_site plan.flush_after s ≡ true
  pub fence_after : (s : Site) → has_site part.fence_after s ≡ true → has_site plan.fence_after s ≡ true
  pub hoist : (s : Site) → has_site part.hoist s ≡ true → has_site plan.hoist s ≡ true
