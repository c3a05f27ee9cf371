-- The tests decide whether a plan mends each report.
use Rattle.std.proofs.Common.{◌≡◌, ◌⊎◌, inl, inr, ℕ, zero, suc, ◌-◌, ◌<◌, Bool, true, false, ◌&&◌, ◌||◌, List, [], ◌∷◌, Option, Some, None, refl, sym, ap, ◌∙◌, subst, arith}
use Rattle.std.specs.Prelude.{slice_get}
use Rattle.std.specs.List.{list_all}
use Rattle.hip_types.specs.Laws.DistinctLaws.{either}
use Rattle.hip_tree.specs.Sites.{has_site}
use Rattle.hip_tree.specs.declared.site.Site.{Site}
use Rattle.hip_runs.specs.StoredParts.Parts.{In}
use Rattle.hip_runs.specs.declared.report.Findings.{Findings}
use Rattle.hip_runs.specs.declared.report.Kind.{Kind}
use Rattle.hip_runs.specs.declared.report.Kind.TheVariants.{MissingFlush, MissingFence, MissingBoth}
use Rattle.hip_runs.specs.declared.report.Report.{Report}
use Rattle.hip_repairs.specs.Mending.{FencesFlush, FlushesStore, HoistsCall, Mends, MendsAll}
use Rattle.hip_repairs.specs.declared.plan.Plan.{Plan}
use Rattle.hip_many.specs.MendingTests.{IsPlanned, any_among, mends_by, mends_with, on_path, only_flush, passes_at}
use Rattle.hip_many.specs.declared.mending.Planned.{Planned}

-- ---- booleans

both_parts : (b c : Bool) → (b && c) ≡ true → (b ≡ true) × (c ≡ true)
both_parts true c e = (refl, e)
both_parts false c e = absurd (let z : ⊥ = cc in z)

both_from : (b c : Bool) → b ≡ true → c ≡ true → (b && c) ≡ true
both_from b c e f = ap (λ x. x && c) e ∙ f

first_of : (b c : Bool) → b ≡ true → (b || c) ≡ true
first_of b c e = ap (λ x. x || c) e

second_of : (b c : Bool) → c ≡ true → (b || c) ≡ true
second_of true c e = refl
second_of false c e = e

-- ---- one of the first sites

found_among : (test : Site → Bool) (n : ℕ) (sites : List Site) → any_among test n sites ≡ true
    → (k : ℕ) × (s : Site) × (k < n) × (slice_get sites k ≡ Some s) × (test s ≡ true)
found_among test zero sites e = absurd (let z : ⊥ = cc in z)
found_among test (suc n) [] e = absurd (let z : ⊥ = cc in z)
found_among test (suc n) (s ∷ sites) e =
    go (λ later. found_among test n sites later) (either (test s) (any_among test n sites) e)
  where
    go : (any_among test n sites ≡ true
        → (k : ℕ) × (x : Site) × (k < n) × (slice_get sites k ≡ Some x) × (test x ≡ true))
        → (test s ≡ true) ⊎ (any_among test n sites ≡ true)
        → (k : ℕ) × (x : Site) × (k < suc n) × (slice_get (s ∷ sites) k ≡ Some x) × (test x ≡ true)
    go rest (inl here) = (0, s, omega arith, refl, here)
    go rest (inr later) =
        let h = rest later in
        (suc h.0, h.1, (let lt = h.2 in omega (arith, lt)), h.3, h.4)

among_found : (test : Site → Bool) (n : ℕ) (sites : List Site) (k : ℕ) (s : Site) → k < n
    → slice_get sites k ≡ Some s → test s ≡ true → any_among test n sites ≡ true
among_found test zero sites k s lt at e = absurd (omega (arith, lt))
among_found test (suc n) [] k s lt at e = absurd (let z : ⊥ = cc in z)
among_found test (suc n) (x ∷ sites) zero s lt at e =
    first_of (test x) (any_among test n sites) (ap test (some_is at) ∙ e)
  where
    some_is : Some x ≡ Some s → x ≡ s
    some_is same = cc
among_found test (suc n) (x ∷ sites) (suc k) s lt at e =
    second_of (test x) (any_among test n sites) (among_found test n sites k s (omega (arith, lt)) at e)

-- After a first site that does not pass, the others decide.
pub one_less : (test : Site → Bool) (left : ℕ) (call : Site) (before after : List Site) → 0 < left
    → before ≡ call ∷ after → test call ≡ false → any_among test (left - 1) after ≡ any_among test left before
one_less test zero call before after some is fails = absurd (omega (arith, some))
one_less test (suc n) call before after some is fails =
    ap (λ (k : ℕ). any_among test k after) (let e : suc n - 1 ≡ n = omega arith in e)
    ∙ ap (λ b. b || any_among test n after) (sym fails)
    ∙ ap (any_among test (suc n)) (sym is)

-- ---- one report

module _ (plan : Plan) (r : Report) where
  fenced : (o : Option Site) → r.flush_site ≡ o → passes_at (has_site plan.fence_after) o ≡ true → FencesFlush plan r
  fenced None is e = absurd (let z : ⊥ = cc in z)
  fenced (Some s) is e = record { site = s; at = is; planned = e }

  kinds : (k : Kind) → only_flush k ≡ true → k ≡ MissingFlush
  kinds MissingFlush e = refl
  kinds MissingFence e = absurd (let z : ⊥ = cc in z)
  kinds MissingBoth e = absurd (let z : ⊥ = cc in z)

  flushed : (store : Site) (calls : List Site) → r.path ≡ store ∷ calls
      → (has_site plan.flush_after store && (only_flush r.kind || has_site plan.fence_after store)) ≡ true
      → FlushesStore plan r
  flushed store calls is e =
      let parts = both_parts (has_site plan.flush_after store)
      (only_flush r.kind || has_site plan.fence_after store) e in
      record {
        site = store;
        at = ap (λ (path : List Site). slice_get path 0) is;
        planned = parts.0;
        fence = go (either (only_flush r.kind) (has_site plan.fence_after store) parts.1);
      }
    where
      go : (only_flush r.kind ≡ true) ⊎ (has_site plan.fence_after store ≡ true)
          → (r.kind ≡ MissingFlush) ⊎ (has_site plan.fence_after store ≡ true)
      go (inl e) = inl (kinds r.kind e)
      go (inr e) = inr e

  hoisted : (store : Site) (calls : List Site) → r.path ≡ store ∷ calls
      → any_among (has_site plan.hoist) r.closed calls ≡ true → HoistsCall plan r
  hoisted store calls is e =
      let h = found_among (has_site plan.hoist) r.closed calls e in
      record {
        number = h.0;
        returned = h.2;
        site = h.1;
        at = ap (λ (path : List Site). slice_get path (suc h.0)) is ∙ h.3;
        planned = h.4;
      }

  pathed : (path : List Site) → r.path ≡ path
      → on_path (has_site plan.flush_after) (has_site plan.fence_after) (has_site plan.hoist) r.kind r.closed path ≡ true
      → FlushesStore plan r ⊎ HoistsCall plan r
  pathed [] is e = absurd (let none = found_among (has_site plan.hoist) r.closed [] e in let z : ⊥ = nothing none.0 none.1 none.3 in z)
    where
      nothing : (k : ℕ) (s : Site) → slice_get [] k ≡ Some s → ⊥
      nothing k s at = cc
  pathed (store ∷ calls) is e =
      go (either (has_site plan.flush_after store && (only_flush r.kind || has_site plan.fence_after store))
      (any_among (has_site plan.hoist) r.closed calls) e)
    where
      go : ((has_site plan.flush_after store && (only_flush r.kind || has_site plan.fence_after store)) ≡ true)
          ⊎ (any_among (has_site plan.hoist) r.closed calls ≡ true) → FlushesStore plan r ⊎ HoistsCall plan r
      go (inl here) = inl (flushed store calls is here)
      go (inr above) = inr (hoisted store calls is above)

  abbrev test : Report → Bool
  test = mends_with (has_site plan.flush_after) (has_site plan.fence_after) (has_site plan.hoist)

  mended : test r ≡ true → Mends plan r
  mended e =
      go (either (passes_at (has_site plan.fence_after) r.flush_site)
      (on_path (has_site plan.flush_after) (has_site plan.fence_after) (has_site plan.hoist) r.kind r.closed r.path) e)
    where
      go : (passes_at (has_site plan.fence_after) r.flush_site ≡ true)
          ⊎ (on_path (has_site plan.flush_after) (has_site plan.fence_after) (has_site plan.hoist) r.kind r.closed r.path ≡ true)
          → Mends plan r
      go (inl e) = inl (fenced r.flush_site refl e)
      go (inr e) = inr (pathed r.path refl e)

  -- ---- the other way

  flush_passes : (path : List Site) (h : FlushesStore plan r) → slice_get path 0 ≡ Some h.site
      → on_path (has_site plan.flush_after) (has_site plan.fence_after) (has_site plan.hoist) r.kind r.closed path ≡ true
  flush_passes [] h at = absurd (let z : ⊥ = cc in z)
  flush_passes (store ∷ calls) h at =
      let same : store ≡ h.site = some_is at in
      first_of (has_site plan.flush_after store && (only_flush r.kind || has_site plan.fence_after store))
      (any_among (has_site plan.hoist) r.closed calls)
      (both_from (has_site plan.flush_after store) (only_flush r.kind || has_site plan.fence_after store)
      (ap (has_site plan.flush_after) same ∙ h.planned) (fence_passes same h.fence))
    where
      some_is : Some store ≡ Some h.site → store ≡ h.site
      some_is e = cc

      fence_passes : store ≡ h.site → (r.kind ≡ MissingFlush) ⊎ (has_site plan.fence_after h.site ≡ true)
          → (only_flush r.kind || has_site plan.fence_after store) ≡ true
      fence_passes same (inl e) = first_of (only_flush r.kind) (has_site plan.fence_after store) (ap only_flush e)
      fence_passes same (inr e) =
          second_of (only_flush r.kind) (has_site plan.fence_after store) (ap (has_site plan.fence_after) same ∙ e)

  hoist_passes : (path : List Site) (h : HoistsCall plan r) → slice_get path (suc h.number) ≡ Some h.site
      → on_path (has_site plan.flush_after) (has_site plan.fence_after) (has_site plan.hoist) r.kind r.closed path ≡ true
  hoist_passes [] h at = absurd (let z : ⊥ = cc in z)
  hoist_passes (store ∷ calls) h at =
      second_of (has_site plan.flush_after store && (only_flush r.kind || has_site plan.fence_after store))
      (any_among (has_site plan.hoist) r.closed calls)
      (among_found (has_site plan.hoist) r.closed calls h.number h.site h.returned at h.planned)

  passes : Mends plan r → test r ≡ true
  passes (inl h) =
      first_of (passes_at (has_site plan.fence_after) r.flush_site)
      (on_path (has_site plan.flush_after) (has_site plan.fence_after) (has_site plan.hoist) r.kind r.closed r.path)
      (ap (passes_at (has_site plan.fence_after)) h.at ∙ h.planned)
  passes (inr (inl h)) =
      second_of (passes_at (has_site plan.fence_after) r.flush_site)
      (on_path (has_site plan.flush_after) (has_site plan.fence_after) (has_site plan.hoist) r.kind r.closed r.path)
      (flush_passes r.path h h.at)
  passes (inr (inr h)) =
      second_of (passes_at (has_site plan.fence_after) r.flush_site)
      (on_path (has_site plan.flush_after) (has_site plan.fence_after) (has_site plan.hoist) r.kind r.closed r.path)
      (hoist_passes r.path h h.at)

-- ---- all reports

mended_each : (plan : Plan) (reports : List Report)
    → list_all (mends_with (has_site plan.flush_after) (has_site plan.fence_after) (has_site plan.hoist)) reports ≡ true
    → (r : Report) → In r reports → Mends plan r
mended_each plan [] e r none = absurd none
mended_each plan (x ∷ reports) e r (inl same) =
    subst (λ (y : Report). Mends plan y) (sym same) (mended plan x (both_parts _ _ e).0)
mended_each plan (x ∷ reports) e r (inr later) = mended_each plan reports (both_parts (test plan x x) _ e).1 r later

passes_each : (plan : Plan) (reports : List Report) → ((r : Report) → In r reports → Mends plan r)
    → list_all (mends_with (has_site plan.flush_after) (has_site plan.fence_after) (has_site plan.hoist)) reports ≡ true
passes_each plan [] h = refl
passes_each plan (x ∷ reports) h =
    both_from (test plan x x)
    (list_all (mends_with (has_site plan.flush_after) (has_site plan.fence_after) (has_site plan.hoist)) reports)
    (passes plan x (h x (inl refl))) (passes_each plan reports (λ r i. h r (inr i)))

-- The sites of the plan decide as the plan does.
by_plan : (plan : Plan) (planned : Planned) → IsPlanned plan planned
    → mends_by planned ≡ mends_with (has_site plan.flush_after) (has_site plan.fence_after) (has_site plan.hoist)
by_plan plan planned is =
    ap (λ f. mends_with f (has_site planned.fence_after) (has_site planned.hoist)) is.flushes
    ∙ ap (λ f. mends_with (has_site plan.flush_after) f (has_site planned.hoist)) is.fences
    ∙ ap (λ f. mends_with (has_site plan.flush_after) (has_site plan.fence_after) f) is.hoists

pub decided : (plan : Plan) (found : Findings) (planned : Planned) (result : Bool) → IsPlanned plan planned
    → result ≡ list_all (mends_by planned) found.reports
    → (result ≡ true → MendsAll plan found) × (MendsAll plan found → result ≡ true)
decided plan found planned result is e =
    let same = e ∙ ap (λ (t : Report → Bool). list_all t found.reports) (by_plan plan planned is) in
    (λ yes_all. mended_each plan found.reports (sym same ∙ yes_all), λ h. same ∙ passes_each plan found.reports h)
