-- What two commands write about the same runs is the same.
use Rattle.std.proofs.Common.{◌≡◌, inl, inr, Bool, true, false, ◌||◌, List, [], ◌∷◌, refl, sym, ap, ◌∙◌}
use Rattle.std.specs.Cmp.{both_ways}
use Rattle.std.specs.List.{list_any}
use Rattle.hip_grammar.specs.Show.{show}
use Rattle.hip_many.specs.Union.{HasAll, IsUnion}
use Rattle.hip_repair_commands.specs.ManyRuns.{TracedRun, plans_of}
use Rattle.hip_repairs.specs.Choice.{plan_for, wants_fence, wants_flush, wants_hoist}
use Rattle.hip_repairs.specs.Direct.{direct}
use Rattle.hip_repairs.specs.Laws.SiteOrder.{filter_ascends}
use Rattle.hip_repairs.specs.Repaired.{repaired}
use Rattle.hip_repairs.specs.declared.plan.Plan.{Plan}
use Rattle.hip_run_traces.specs.Traces.{IsTrace}
use Rattle.hip_runs.specs.StoredParts.Parts.{In}
use Rattle.hip_runs.specs.declared.input.Input.{Input}
use Rattle.hip_runs.specs.declared.report.Findings.{Findings}
use Rattle.hip_tool.proofs.Repairs.{any_run}
use Rattle.hip_tool.specs.Agreement.{CommandsAgree, FoundTheSame}
use Rattle.hip_trace.specs.Texts.{lines_of}
use Rattle.hip_trace.specs.declared.entry.Entry.{Entry}
use Rattle.hip_tree.specs.Sites.{has_site}
use Rattle.hip_tree.specs.declared.program.Program.{Program}
use Rattle.hip_tree.specs.declared.site.Site.{Site}

-- The laws that are cited.
pub record Cited : Type 0 where
  pub one_union : (plans : List Plan) (a b : Plan) → IsUnion plans a → IsUnion plans b → a ≡ b
  pub one_trace : (P : Program) (I : Input) (es fs : List Entry) → IsTrace P I es → IsTrace P I fs → es ≡ fs

or_none : (b : Bool) → b || false ≡ b
or_none true = refl
or_none false = refl

-- The plan for what a run found is its own union.
own_union : (P : Program) (found : Findings) → IsUnion (plan_for P found ∷ []) (plan_for P found)
own_union P found = record {
  flush_after = record {
    ascends = filter_ascends P (wants_flush P found);
    has = λ s. sym (or_none (has_site (plan_for P found).flush_after s));
  };
  fence_after = record {
    ascends = filter_ascends P (wants_fence P found);
    has = λ s. sym (or_none (has_site (plan_for P found).fence_after s));
  };
  hoist = record {
    ascends = filter_ascends P (wants_hoist P found);
    has = λ s. sym (or_none (has_site (plan_for P found).hoist s));
  };
}

-- A union of plans is the union of others, if each test is passed by one of both or of none.
other_list : (sites_in : Plan → List Site) (xs ys : List Plan) (list : List Site)
    → ((test : Plan → Bool) → list_any test ys ≡ list_any test xs) → HasAll sites_in xs list → HasAll sites_in ys list
other_list sites_in xs ys list same h = record {
  ascends = h.ascends;
  has = λ s. h.has s ∙ sym (same (λ p. has_site (sites_in p) s));
}

other_union : (xs ys : List Plan) (plan : Plan) → ((test : Plan → Bool) → list_any test ys ≡ list_any test xs)
    → IsUnion xs plan → IsUnion ys plan
other_union xs ys plan same h = record {
  flush_after = other_list (λ p. p.flush_after) xs ys plan.flush_after same h.flush_after;
  fence_after = other_list (λ p. p.fence_after) xs ys plan.fence_after same h.fence_after;
  hoist = other_list (λ p. p.hoist) xs ys plan.hoist same h.hoist;
}

module _ (P : Program) where
  in_any_run : (test : Plan → Bool) (runs : List TracedRun) (r : TracedRun) → In r runs
      → test (plan_for P r.found) ≡ true → list_any test (plans_of P runs) ≡ true
  in_any_run test [] r i e = absurd i
  in_any_run test (q ∷ rs) r (inl same) e = first (test (plan_for P q.found)) _ (ap (λ (x : TracedRun). test (plan_for P x.found)) (sym same) ∙ e)
    where
      first : (b c : Bool) → b ≡ true → b || c ≡ true
      first true c h = refl
      first false c h = absurd (let z : ⊥ = cc in z)
  in_any_run test (q ∷ rs) r (inr i) e = later (test (plan_for P q.found)) _ (in_any_run test rs r i e)
    where
      later : (b c : Bool) → c ≡ true → b || c ≡ true
      later true c h = refl
      later false c h = h

  one_way : (test : Plan → Bool) (runs others : List TracedRun) → FoundTheSame runs others
      → list_any test (plans_of P runs) ≡ true → list_any test (plans_of P others) ≡ true
  one_way test runs others same e =
      let r = any_run test P runs e in
      let s = (same r.0.found).0 (r.0, r.1, refl) in
      in_any_run test others s.0 s.1 (ap (λ (x : Findings). test (plan_for P x)) s.2 ∙ r.2)

  same_tests : (runs others : List TracedRun) → FoundTheSame runs others → (test : Plan → Bool)
      → list_any test (plans_of P runs) ≡ list_any test (plans_of P others)
  same_tests runs others same test =
      both_ways (list_any test (plans_of P runs)) (list_any test (plans_of P others)) (one_way test runs others same)
      (one_way test others runs (λ found. ((same found).1, (same found).0)))

pub agree : Cited → CommandsAgree
agree by = record {
  one = λ P r many repair h k.
      let plan = by.one_union (plan_for P r.found ∷ []) h.plan (plan_for P r.found) h.union (own_union P r.found) in
      h.texts.out_is ∙ ap (λ (p : Plan). show (repaired P p (direct P))) plan ∙ sym k.texts.out_is;
  order = λ P runs others first second same h k.
      let plan = by.one_union (plans_of P runs) h.plan k.plan h.union
      (other_union (plans_of P others) (plans_of P runs) k.plan (same_tests P runs others same) k.union) in
      h.texts.out_is ∙ ap (λ (p : Plan). show (repaired P p (direct P))) plan ∙ sym k.texts.out_is;
  rerun = λ P I found first second h k.
      h.out_is ∙ ap lines_of (by.one_trace _ I h.trace k.traced.trace h.is_trace k.traced.is_trace) ∙ sym k.traced.is;
}
