-- What the lists of plans have, and that plans suit.
use Rattle.hip_runs.specs.Laws.Members.{both_true, any_in, in_any}
use Rattle.std.proofs.Common.{◌≡◌, ◌⊎◌, inl, inr, ℕ, zero, suc, Bool, true, false, ◌||◌, nat_eq, List, Option, Some, None, slice_get, refl, sym, ap, ◌∙◌, subst}
use Rattle.hip_types.specs.Laws.DistinctLaws.{or_first, or_second, either}
use Rattle.hip_tree.specs.Laws.SiteLaws.{same_site_equal}
use Rattle.hip_tree.specs.Sites.{instr_of, has_site, sites_of}
use Rattle.hip_tree.specs.declared.program.Program.{Program}
use Rattle.hip_tree.specs.declared.site.Site.{Site}
use Rattle.hip_runs.specs.declared.input.Input.{Input}
use Rattle.hip_runs.specs.declared.report.Findings.{Findings}
use Rattle.hip_runs.specs.declared.report.Kind.{Kind}
use Rattle.hip_runs.specs.declared.report.Kind.TheVariants.{MissingFlush, MissingFence, MissingBoth}
use Rattle.hip_runs.specs.declared.report.Report.{Report}
use Rattle.hip_runs.specs.Found.Marks.{IsFound}
use Rattle.hip_runs.specs.StoredParts.Parts.{In}
use Rattle.hip_repairs.specs.Choice.{choice, is_site, asks_flush, asks_fence, asks_hoist, wants_flush, wants_fence, wants_hoist, plan_for, Contains}
use Rattle.hip_repairs.specs.Suits.{IsSuiting}
use Rattle.hip_repairs.specs.Planned.{IsAsked, PlanIsWithin, union, either_list}
use Rattle.hip_repairs.specs.Laws.SiteOrder.{plan_asked, filter_ascends, in_has, has_in, site_in, filtered_are, filtered_has}
use Rattle.hip_runs.specs.Sites.{is_store, is_flush_call, is_defined_call}
use Rattle.hip_runs.specs.Laws.Found.ReportLaws.{reports_formed}
use Rattle.hip_tree.specs.declared.instr.Instr.{Instr}
use Rattle.hip_runs.specs.Found.WellFormed.{IsWellFormed}
use Rattle.hip_repairs.specs.declared.plan.Plan.{Plan}

-- ---- what a report needs

is_the_site : (o : Option Site) (s : Site) → is_site o s ≡ true → o ≡ Some s
is_the_site None s e = absurd (let z : ⊥ = cc in z)
is_the_site (Some t) s e = ap Some (sym (same_site_equal s t e))

flush_at : (kind : Kind) (level : ℕ) (path : List Site) (s : Site) → asks_flush kind level path s ≡ true
    → slice_get path 0 ≡ Some s
flush_at MissingFence level path s e = absurd (let z : ⊥ = cc in z)
flush_at MissingFlush level path s e = is_the_site (slice_get path 0) s (both_true (nat_eq level 0) _ e).1
flush_at MissingBoth level path s e = is_the_site (slice_get path 0) s (both_true (nat_eq level 0) _ e).1

fence_at : (kind : Kind) (level : ℕ) (flush : Option Site) (path : List Site) (s : Site)
    → asks_fence kind level flush path s ≡ true → (flush ≡ Some s) ⊎ (asks_flush kind level path s ≡ true)
fence_at MissingFence level flush path s e = inl (is_the_site flush s e)
fence_at MissingFlush level flush path s e = absurd (let z : ⊥ = cc in z)
fence_at MissingBoth level flush path s e = inr e

hoist_at : (kind : Kind) (level : ℕ) (path : List Site) (s : Site) → asks_hoist kind level path s ≡ true
    → (k : ℕ) × (slice_get path (suc k) ≡ Some s)
hoist_at MissingFence level path s e = absurd (let z : ⊥ = cc in z)
hoist_at MissingFlush zero path s e = absurd (let z : ⊥ = cc in z)
hoist_at MissingFlush (suc level) path s e = (level, is_the_site (slice_get path (suc level)) s e)
hoist_at MissingBoth zero path s e = absurd (let z : ⊥ = cc in z)
hoist_at MissingBoth (suc level) path s e = (level, is_the_site (slice_get path (suc level)) s e)

-- ---- the plan

module _ (P : Program) (I : Input) (found : Findings) (is_found : IsFound P I found) where
  placed : (r : Report) → In r found.reports → IsWellFormed P r
  placed r i = reports_formed P I is_found.steps r (subst (λ (x : Findings). In r x.reports) is_found.is i)

  asked : IsAsked P found
  asked = plan_asked P found

  flush_suits : (s : Site) → has_site (plan_for P found).flush_after s ≡ true → is_store (instr_of P s) ≡ true
  flush_suits s h =
      let r = any_in (λ r. asks_flush r.kind (choice P found r) r.path s) found.reports (asked.flushes.asked s h) in
      (placed r.0 r.1).store s (flush_at r.0.kind (choice P found r.0) r.0.path s r.2)

  fence_suits : (s : Site) → has_site (plan_for P found).fence_after s ≡ true
      → (is_flush_call (instr_of P s) || has_site (plan_for P found).flush_after s) ≡ true
  fence_suits s h =
      let r =
      any_in (λ r. asks_fence r.kind (choice P found r) r.flush_site r.path s) found.reports
      (asked.fences.asked s h) in
      go r.0 r.1 (fence_at r.0.kind (choice P found r.0) r.0.flush_site r.0.path s r.2)
    where
      go : (r : Report) → In r found.reports
          → (r.flush_site ≡ Some s) ⊎ (asks_flush r.kind (choice P found r) r.path s ≡ true)
          → (is_flush_call (instr_of P s) || has_site (plan_for P found).flush_after s) ≡ true
      go r i (inl e) = or_first _ _ ((placed r i).flush s e)
      go r i (inr e) =
          or_second (is_flush_call (instr_of P s)) _
          (asked.flushes.has s (asked.fences.site s h)
          (in_any (λ r. asks_flush r.kind (choice P found r) r.path s) found.reports r i e))

  hoist_suits : (s : Site) → has_site (plan_for P found).hoist s ≡ true
      → is_defined_call P (instr_of P s) ≡ true
  hoist_suits s h =
      let r = any_in (λ r. asks_hoist r.kind (choice P found r) r.path s) found.reports (asked.hoists.asked s h) in
      let k = hoist_at r.0.kind (choice P found r.0) r.0.path s r.2 in
      (placed r.0 r.1).call k.0 s k.1

  pub plan_suits : IsSuiting P (plan_for P found)
  plan_suits = record {
    flushes = flush_suits;
    fences = fence_suits;
    hoists = hoist_suits;
    flushes_ascend = filter_ascends P (wants_flush P found);
    fences_ascend = filter_ascends P (wants_fence P found);
    hoists_ascend = filter_ascends P (wants_hoist P found);
  }

-- ---- the union of two plans

is_there : (P : Program) (s : Site) (test : Option Instr → Bool) → test None ≡ false
    → test (instr_of P s) ≡ true
    → has_site (sites_of P) s ≡ true
is_there P s test none e = go (instr_of P s) refl e
  where
    go : (o : Option Instr) → instr_of P s ≡ o → test o ≡ true → has_site (sites_of P) s ≡ true
    go None q h = absurd (let z : false ≡ true = sym none ∙ h in let w : ⊥ = cc in w)
    go (Some i) q h = in_has (sites_of P) s (site_in P s i q)

-- A plan that suits the program names only sites of the program.
pub suiting_within : (P : Program) (plan : Plan) → IsSuiting P plan → PlanIsWithin P plan
suiting_within P plan suits = record {
  flush_after = flush;
  fence_after = λ s h. by s (either (is_flush_call (instr_of P s)) (has_site plan.flush_after s) (suits.fences s h));
  hoist = λ s h. is_there P s (is_defined_call P) refl (suits.hoists s h);
}
  where
    flush : (s : Site) → has_site plan.flush_after s ≡ true → has_site (sites_of P) s ≡ true
    flush s h = is_there P s is_store refl (suits.flushes s h)

    by : (s : Site) → (is_flush_call (instr_of P s) ≡ true) ⊎ (has_site plan.flush_after s ≡ true)
        → has_site (sites_of P) s ≡ true
    by s (inl e) = is_there P s is_flush_call refl e
    by s (inr e) = flush s e

module _ (P : Program) (a b : Plan) where
  in_list : (xs ys : List Site) (s : Site) → has_site (sites_of P) s ≡ true
      → has_site xs s || has_site ys s ≡ true
      → has_site (either_list P xs ys) s ≡ true
  in_list xs ys s h e = filtered_has (λ t. has_site xs t || has_site ys t) (sites_of P) s (has_in (sites_of P) s h) e

  pub has_first : PlanIsWithin P a → Contains (union P a b) a
  has_first w = record {
    flush_after = λ s h. in_list a.flush_after b.flush_after s (w.flush_after s h) (or_first _ _ h);
    fence_after = λ s h. in_list a.fence_after b.fence_after s (w.fence_after s h) (or_first _ _ h);
    hoist = λ s h. in_list a.hoist b.hoist s (w.hoist s h) (or_first _ _ h);
  }

  pub has_second : PlanIsWithin P b → Contains (union P a b) b
  has_second w = record {
    flush_after =
        λ s h. in_list a.flush_after b.flush_after s (w.flush_after s h) (or_second (has_site a.flush_after s) _ h);
    fence_after =
        λ s h. in_list a.fence_after b.fence_after s (w.fence_after s h) (or_second (has_site a.fence_after s) _ h);
    hoist = λ s h. in_list a.hoist b.hoist s (w.hoist s h) (or_second (has_site a.hoist s) _ h);
  }

  of_list : (xs ys : List Site) (s : Site) → has_site (either_list P xs ys) s ≡ true
      → (has_site xs s ≡ true) ⊎ (has_site ys s ≡ true)
  of_list xs ys s h =
      either (has_site xs s) (has_site ys s) ((filtered_are P (λ t. has_site xs t || has_site ys t)).asked s h)

  pub union_suits : IsSuiting P a → IsSuiting P b → IsSuiting P (union P a b)
  union_suits f g = record {
    flushes = λ s h. flush s (of_list a.flush_after b.flush_after s h);
    fences = λ s h. fence s (of_list a.fence_after b.fence_after s h);
    hoists = λ s h. hoist s (of_list a.hoist b.hoist s h);
    flushes_ascend = filter_ascends P (λ t. has_site a.flush_after t || has_site b.flush_after t);
    fences_ascend = filter_ascends P (λ t. has_site a.fence_after t || has_site b.fence_after t);
    hoists_ascend = filter_ascends P (λ t. has_site a.hoist t || has_site b.hoist t);
  }
    where
      flush : (s : Site) → (has_site a.flush_after s ≡ true) ⊎ (has_site b.flush_after s ≡ true)
          → is_store (instr_of P s) ≡ true
      flush s (inl h) = f.flushes s h
      flush s (inr h) = g.flushes s h

      hoist : (s : Site) → (has_site a.hoist s ≡ true) ⊎ (has_site b.hoist s ≡ true)
          → is_defined_call P (instr_of P s) ≡ true
      hoist s (inl h) = f.hoists s h
      hoist s (inr h) = g.hoists s h

      after : (s : Site) (plan : Plan) → Contains (union P a b) plan
          → is_flush_call (instr_of P s) || has_site plan.flush_after s ≡ true
          → is_flush_call (instr_of P s) || has_site (union P a b).flush_after s ≡ true
      after s plan c h = by (either (is_flush_call (instr_of P s)) (has_site plan.flush_after s) h)
        where
          by : (is_flush_call (instr_of P s) ≡ true) ⊎ (has_site plan.flush_after s ≡ true)
              → is_flush_call (instr_of P s) || has_site (union P a b).flush_after s ≡ true
          by (inl e) = or_first _ _ e
          by (inr e) = or_second (is_flush_call (instr_of P s)) _ (c.flush_after s e)

      fence : (s : Site) → (has_site a.fence_after s ≡ true) ⊎ (has_site b.fence_after s ≡ true)
          → is_flush_call (instr_of P s) || has_site (union P a b).flush_after s ≡ true
      fence s (inl h) = after s a (has_first (suiting_within P a f)) (f.fences s h)
      fence s (inr h) = after s b (has_second (suiting_within P b g)) (g.fences s h)
