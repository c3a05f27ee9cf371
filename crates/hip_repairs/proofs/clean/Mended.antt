-- A plan that has what a run found mends each of its reports: at the level that the choice names.
use Rattle.std.proofs.Common.{◌≡◌, ◌⊎◌, inl, inr, ℕ, zero, suc, ◌<◌, Bool, true, false, ◌&&◌, nat_eq, List, [], ◌∷◌, length, Option, Some, None, slice_get, refl, sym, ap, ◌∙◌, subst, arith}
use Rattle.std.specs.Prelude.{is_some}
use Rattle.hip_tree.specs.Laws.SiteLaws.{site_same}
use Rattle.hip_tree.specs.Sites.{instr_of}
use Rattle.hip_tree.specs.declared.instr.Instr.{Instr}
use Rattle.hip_tree.specs.declared.program.Program.{Program}
use Rattle.hip_tree.specs.declared.site.Site.{Site}
use Rattle.hip_runs.specs.Found.Marks.{IsFound}
use Rattle.hip_runs.specs.Found.WellFormed.{IsWellFormed, lacks_fence_alone}
use Rattle.hip_runs.specs.Laws.Found.ReportLaws.{reports_formed}
use Rattle.hip_runs.specs.Sites.{is_defined_call, is_flush_call, is_store}
use Rattle.hip_runs.specs.StoredParts.Parts.{In}
use Rattle.hip_runs.specs.declared.input.Input.{Input}
use Rattle.hip_runs.specs.declared.report.Findings.{Findings}
use Rattle.hip_runs.specs.declared.report.Kind.{Kind}
use Rattle.hip_runs.specs.declared.report.Kind.TheVariants.{MissingFlush, MissingFence, MissingBoth}
use Rattle.hip_runs.specs.declared.report.Report.{Report}
use Rattle.hip_repairs.specs.Choice.{Contains, asks_fence, asks_flush, asks_hoist, best_on, choice, is_site, level_for, plan_for}
use Rattle.hip_repairs.specs.Mending.{FlushesStore, Mends, MendsAll}
use Rattle.hip_repairs.specs.declared.plan.Plan.{Plan}
use Rattle.hip_repairs.proofs.clean.Asked.{IsLevel, best_on_is, has_fence, has_flush, has_hoist}

-- An instruction that passes a test is there, if nothing else passes it.
passes_there : (test : Option Instr → Bool) → test None ≡ false → (o : Option Instr) → test o ≡ true
    → (i : Instr) × (o ≡ Some i)
passes_there test fails None e = absurd (let z : false ≡ true = sym fails ∙ e in let y : ⊥ = cc in y)
passes_there test fails (Some i) e = (i, refl)

site_there : (path : List Site) (k : ℕ) → k < length path → (s : Site) × (slice_get path k ≡ Some s)
site_there [] k h = absurd (omega (arith, h))
site_there (s ∷ path) zero h = (s, refl)
site_there (s ∷ path) (suc k) h = site_there path k (omega (arith, h))

module _ (P : Program) (plan : Plan) (found : Findings) (contains : Contains plan (plan_for P found)) (r : Report)
    (there : In r found.reports) (formed : IsWellFormed P r) where
  -- Only a fence is missing.
  by_fence : r.kind ≡ MissingFence → Mends plan r
  by_fence kind = go r.flush_site refl
    where
      go : (o : Option Site) → r.flush_site ≡ o → Mends plan r
      go None e =
          let z : false ≡ true = sym (ap is_some e) ∙ formed.flush_site ∙ ap lacks_fence_alone kind in
          absurd (let y : ⊥ = cc in y)
      go (Some s) e =
          let i = passes_there is_flush_call refl (instr_of P s) (formed.flush s e) in
          inl (record {
            site = s;
            at = e;
            planned =
                has_fence P plan found contains r there s i.0 i.1
                (ap (λ (k : Kind). asks_fence k (level_for P found r k) r.flush_site r.path s) kind
                ∙ ap (λ (o : Option Site). is_site o s) e ∙ site_same s);
          })

  module _ (store : Site) (calls : List Site) (path : r.path ≡ store ∷ calls) where
    abbrev level : ℕ
    level = best_on P found r.closed r.path

    store_at : slice_get r.path 0 ≡ Some store
    store_at = ap (λ (xs : List Site). slice_get xs 0) path

    -- The chosen level is that of the store.
    at_store : level ≡ 0 → (r.kind ≡ MissingFlush) ⊎ (r.kind ≡ MissingBoth) → Mends plan r
    at_store first kind = inr (inl (by kind))
      where
        i : (i : Instr) × (instr_of P store ≡ Some i)
        i = passes_there is_store refl (instr_of P store) (formed.store store store_at)

        here : nat_eq level 0 && is_site (slice_get r.path 0) store ≡ true
        here =
            ap (λ n. nat_eq n 0 && is_site (slice_get r.path 0) store) first
            ∙ ap (λ (o : Option Site). is_site o store) store_at ∙ site_same store

        by : (r.kind ≡ MissingFlush) ⊎ (r.kind ≡ MissingBoth) → FlushesStore plan r
        by (inl e) = record {
          site = store;
          at = store_at;
          planned =
              has_flush P plan found contains r there store i.0 i.1
              (ap (λ (k : Kind). asks_flush k (level_for P found r k) r.path store) e ∙ here);
          fence = inl e;
        }
        by (inr e) = record {
          site = store;
          at = store_at;
          planned =
              has_flush P plan found contains r there store i.0 i.1
              (ap (λ (k : Kind). asks_flush k (level_for P found r k) r.path store) e ∙ here);
          fence =
              inr (has_fence P plan found contains r there store i.0 i.1
              (ap (λ (k : Kind). asks_fence k (level_for P found r k) r.flush_site r.path store) e ∙ here));
        }

    -- The chosen level is that of a call.
    at_call : IsLevel 1 r.closed calls level → (r.kind ≡ MissingFlush) ⊎ (r.kind ≡ MissingBoth) → Mends plan r
    at_call l kind = inr (inr (record {
      number = l.0;
      returned = l.1;
      site = call.0;
      at = call_at;
      planned = has_hoist P plan found contains r there call.0 i.0 i.1 (asked kind);
    }))
      where
        call : (s : Site) × (slice_get calls l.0 ≡ Some s)
        call = site_there calls l.0 l.2

        call_at : slice_get r.path (suc l.0) ≡ Some call.0
        call_at = ap (λ (xs : List Site). slice_get xs (suc l.0)) path ∙ call.1

        i : (i : Instr) × (instr_of P call.0 ≡ Some i)
        i = passes_there (is_defined_call P) refl (instr_of P call.0) (formed.call l.0 call.0 call_at)

        level_is : level ≡ suc l.0
        level_is = let e = l.3 in omega (arith, e)

        here : is_site (slice_get r.path (suc l.0)) call.0 ≡ true
        here = ap (λ (o : Option Site). is_site o call.0) call_at ∙ site_same call.0

        asked : (r.kind ≡ MissingFlush) ⊎ (r.kind ≡ MissingBoth)
            → asks_hoist r.kind (choice P found r) r.path call.0 ≡ true
        asked (inl e) =
            ap (λ (k : Kind). asks_hoist k (level_for P found r k) r.path call.0) e
            ∙ ap (λ n. asks_hoist MissingFlush n r.path call.0) level_is ∙ here
        asked (inr e) =
            ap (λ (k : Kind). asks_hoist k (level_for P found r k) r.path call.0) e
            ∙ ap (λ n. asks_hoist MissingBoth n r.path call.0) level_is ∙ here

    by_flush : (r.kind ≡ MissingFlush) ⊎ (r.kind ≡ MissingBoth) → Mends plan r
    by_flush kind = go (best_on_is P found r.closed store calls)
      where
        same : level ≡ best_on P found r.closed (store ∷ calls)
        same = ap (best_on P found r.closed) path

        go : (best_on P found r.closed (store ∷ calls) ≡ 0)
            ⊎ IsLevel 1 r.closed calls (best_on P found r.closed (store ∷ calls)) → Mends plan r
        go (inl e) = at_store (same ∙ e) kind
        go (inr l) = at_call (subst (IsLevel 1 r.closed calls) (sym same) l) kind

  on_path : (r.kind ≡ MissingFlush) ⊎ (r.kind ≡ MissingBoth) → Mends plan r
  on_path kind = go r.path refl
    where
      go : (path : List Site) → r.path ≡ path → Mends plan r
      go [] e =
          let few = formed.closed in
          let none : length r.path ≡ 0 = ap length e in
          absurd (omega (arith, few, none))
      go (store ∷ calls) e = by_flush store calls e kind

  mends_one : Mends plan r
  mends_one = go r.kind refl
    where
      go : (k : Kind) → r.kind ≡ k → Mends plan r
      go MissingFence e = by_fence e
      go MissingFlush e = on_path (inl e)
      go MissingBoth e = on_path (inr e)

pub contained_mends : (P : Program) (I : Input) (plan : Plan) (found : Findings) → IsFound P I found
    → Contains plan (plan_for P found) → MendsAll plan found
contained_mends P I plan found is contains r i =
    mends_one P plan found contains r i
    (reports_formed P I is.steps r (subst (λ (f : Findings). In r f.reports) is.is i))
