-- What is written is the program repaired by exactly the plan, and what holds of it.
use Rattle.std.proofs.Common.{◌≡◌, inl, inr, Bool, true, false, ◌||◌, List, [], ◌∷◌, map, refl, sym, ap, ◌∙◌}
use Rattle.std.specs.List.{All, list_any}
use Rattle.std.proofs.lemmas.List.Elements.{All-cons, All-nil}
use Rattle.hip_answers.specs.Answers.{Answer}
use Rattle.hip_answers.specs.declared.status.Status.TheVariants.{Done}
use Rattle.hip_grammar.specs.Show.{show}
use Rattle.hip_histories.proofs.Repairs.{all_covered}
use Rattle.hip_histories.specs.Chains.{KeepsProgram, Repair, repaired_on}
use Rattle.hip_histories.specs.SameSteps.{TakesSameSteps}
use Rattle.hip_vol.specs.LowStores.{low_stores}
use Rattle.hip_many.specs.Union.{HasAll}
use Rattle.hip_repair_commands.specs.Many.{HasRepairedMany}
use Rattle.hip_repair_commands.specs.ManyRuns.{TracedRun, plans_of}
use Rattle.hip_repair_answers.specs.Answers.{HasRepaired}
use Rattle.hip_repair_laws.specs.Local.{IsLocal, IsPlanned, IsReportedSite}
use Rattle.hip_survival.specs.Kept.{ChecksSurvive, CoveredSurvive}
use Rattle.hip_repairs.specs.Choice.{Contains, plan_for}
use Rattle.hip_repairs.specs.Clean.{IsClean}
use Rattle.hip_repairs.specs.Covered.{AreHoistsFenced, IsCovered}
use Rattle.hip_repairs.specs.Direct.{direct}
use Rattle.hip_repairs.specs.Harmless.{IsHarmless}
use Rattle.hip_repairs.specs.StayOutside.{StayOutside}
use Rattle.hip_repairs.specs.Repaired.{repaired}
use Rattle.hip_repairs.specs.declared.plan.Plan.{Plan}
use Rattle.hip_runs.specs.Found.Marks.{IsFound}
use Rattle.hip_runs.specs.StoredParts.Parts.{In}
use Rattle.hip_runs.specs.Validity.{IsValid}
use Rattle.hip_runs.specs.declared.input.Input.{Input}
use Rattle.hip_runs.specs.declared.report.Findings.{Findings}
use Rattle.hip_sound.specs.Sound.{IsSound}
use Rattle.hip_repair_commands.specs.Thin.{HasThinned}
use Rattle.hip_tool.proofs.Later.{stays_surviving}
use Rattle.hip_tool.specs.Headline.{OfRun}
use Rattle.hip_tool.specs.Repair.{HasPlanned, HasPlannedMany, HasPlannedThin, IsRepair, IsReportedIn, StaysClean, WritesRepair}
use Rattle.hip_tree.specs.Sites.{has_site}
use Rattle.hip_tree.specs.declared.program.Program.{Program}
use Rattle.hip_tree.specs.declared.site.Site.{Site}

-- The theorems about repairs that are cited.
pub record Cited : Type 0 where
  pub local : (P : Program) (plan : Plan) (skip : Site → Bool) → IsLocal P plan skip
  pub harmless : (P : Program) (plan : Plan) (skip : Site → Bool) → IsSound P → IsHarmless P plan skip
  pub fenced : (P : Program) (plan : Plan) (skip : Site → Bool) → IsSound P → AreHoistsFenced P plan skip
  pub clean : (P : Program) (plan : Plan) (skip : Site → Bool) (I : Input) (found : Findings) → IsSound P → IsValid P I
      → StayOutside P skip → IsFound P I found → Contains plan (plan_for P found) → IsClean (repaired P plan skip) I
  pub steps : (P : Program) (plan : Plan) (skip : Site → Bool) → IsSound P → TakesSameSteps P plan skip
  pub again : (P : Program) (plan : Plan) (skip : Site → Bool) → IsSound P → IsSound (repaired P plan skip)
  pub valid : (P : Program) (plan : Plan) (skip : Site → Bool) (I : Input) → IsValid P I
      → IsValid (repaired P plan skip) I
  pub covered : (P : Program) (plan : Plan) (skip : Site → Bool) → IsSound P → StayOutside P skip
      → IsCovered P (repaired P plan skip)
  pub calls : (P : Program) (plan : Plan) (skip : Site → Bool) → IsSound P → StayOutside P skip
      → CoveredSurvive P (repaired P plan skip)
  pub kept : (P : Program) (repairs : List Repair) → IsSound P → KeepsProgram P (repaired_on P repairs)
  pub checks : (P : Program) → IsSound P → (repairs : List Repair) (I : Input) → IsValid P I → IsClean P I
      → ChecksSurvive (repaired_on P repairs) I
  pub direct : (P : Program) → IsSound P → StayOutside P (direct P)
  pub low : (P : Program) → IsSound P → StayOutside P (low_stores P)
  pub reported : (P : Program) (found : Findings) (s : Site) → IsPlanned (plan_for P found) s → IsReportedSite found s

-- A plan contains itself.
own : (plan : Plan) → Contains plan plan
own plan = record { flush_after = λ s e. e; fence_after = λ s e. e; hoist = λ s e. e }

-- A test that one of a list passes is passed by a member.
pub any_run : (test : Plan → Bool) (P : Program) (runs : List TracedRun) → list_any test (plans_of P runs) ≡ true
    → (r : TracedRun) × In r runs × (test (plan_for P r.found) ≡ true)
any_run test P [] e = absurd (let z : ⊥ = cc in z)
any_run test P (r ∷ rs) e = go (test (plan_for P r.found)) refl e (λ h. any_run test P rs h)
  where
    go : (b : Bool) → test (plan_for P r.found) ≡ b → b || list_any test (plans_of P rs) ≡ true
        → (list_any test (plans_of P rs) ≡ true → (q : TracedRun) × In q rs × (test (plan_for P q.found) ≡ true))
        → (q : TracedRun) × In q (r ∷ rs) × (test (plan_for P q.found) ≡ true)
    go true is h more = (r, inl refl, is)
    go false is h more = let q = more h in (q.0, inr q.1, q.2)

module _ (by : Cited) (P : Program) (sound : IsSound P) where
  valid_on : (Q : Program) (rs : List Repair) (I : Input) → IsValid Q I → IsValid (repaired_on Q rs) I
  valid_on Q [] I v = v
  valid_on Q (r ∷ rs) I v = valid_on (repaired Q r.plan r.skip) rs I (by.valid Q r.plan r.skip I v)

  module _ (plan : Plan) (skip : Site → Bool) (quiet : StayOutside P skip) where
    abbrev Q : Program
    Q = repaired P plan skip

    stays_clean : (J : Input) (found : Findings) → IsValid P J → IsFound P J found → Contains plan (plan_for P found)
        → StaysClean Q J
    stays_clean J found valid is has = record {
      clean = λ later. (by.kept Q later again).clean J valid_again clean;
      survives = λ later. by.checks Q again later J valid_again clean;
    }
      where
        again : IsSound Q
        again = by.again P plan skip sound

        valid_again : IsValid Q J
        valid_again = by.valid P plan skip J valid

        clean : IsClean Q J
        clean = by.clean P plan skip J found sound valid quiet is has

    the_repair : IsRepair P plan skip
    the_repair = record {
      reads = (by.again P plan skip sound).spelled;
      local = by.local P plan skip;
      fenced = by.fenced P plan skip sound;
      harmless = by.harmless P plan skip sound;
      steps = by.steps P plan skip sound;
      covered = by.covered P plan skip sound quiet;
      calls = by.calls P plan skip sound quiet;
      clean = stays_clean;
      kept = λ later. by.kept P (record { plan = plan; skip = skip } ∷ later) sound;
      stays_covered = λ later. all_covered P (record { plan = plan; skip = skip }) later sound quiet;
      stays_surviving = λ later.
          stays_surviving P Q (repaired_on Q later)
          (all_covered P (record { plan = plan; skip = skip }) later sound quiet)
          (by.kept P (record { plan = plan; skip = skip } ∷ later) sound).sound (λ J v. valid_on Q later J v);
    }

    written : (inputs : List Input) (a : Answer) → a.status ≡ Done → a.out ≡ show Q → All (StaysClean Q) inputs
        → WritesRepair P plan skip inputs a
    written inputs a status out clean = record {
      status_is = status;
      out_is = out;
      repair = the_repair;
      clean = clean;
    }

  -- The repair for one run.
  for_run : (skip : Site → Bool) → StayOutside P skip → (I : Input) (found : Findings) (a : Answer) → IsValid P I
      → IsFound P I found → a.status ≡ Done → a.out ≡ show (repaired P (plan_for P found) skip)
      → WritesRepair P (plan_for P found) skip (I ∷ []) a
  for_run skip quiet I found a valid is status out =
      let stays = StaysClean (repaired P (plan_for P found) skip) in
      written (plan_for P found) skip quiet (I ∷ []) a status out
      (All-cons stays I [] (stays_clean (plan_for P found) skip quiet I found valid is (own (plan_for P found)))
      (All-nil stays))

  pub of_repair : (I : Input) (a : Answer) → IsValid P I → OfRun HasRepaired P I a → OfRun HasPlanned P I a
  of_repair I a valid h = (
    h.0,
    h.1,
    record {
      texts = for_run (direct P) (by.direct P sound) I h.0 a valid h.1 h.2.status_is h.2.out_is;
      notes_is = h.2.notes_is;
      reported = by.reported P h.0;
    },
  )

  pub of_thin : (I : Input) (a : Answer) → IsValid P I → OfRun HasThinned P I a → OfRun HasPlannedThin P I a
  of_thin I a valid h = (
    h.0,
    h.1,
    record {
      texts = for_run (low_stores P) (by.low P sound) I h.0 a valid h.1 h.2.status_is h.2.out_is;
      notes_is = h.2.notes_is;
      reported = by.reported P h.0;
    },
  )

  -- The repair for many runs.
  module _ (runs : List TracedRun) (plan : Plan) (flushes : HasAll (λ p. p.flush_after) (plans_of P runs) plan.flush_after)
      (fences : HasAll (λ p. p.fence_after) (plans_of P runs) plan.fence_after)
      (hoists : HasAll (λ p. p.hoist) (plans_of P runs) plan.hoist) where
    in_some : (test : Plan → Bool) (r : TracedRun) → In r runs → test (plan_for P r.found) ≡ true
        → list_any test (plans_of P runs) ≡ true
    in_some test r i e = go runs i
      where
        later : (b c : Bool) → c ≡ true → b || c ≡ true
        later true c h = refl
        later false c h = h

        first : (b c : Bool) → b ≡ true → b || c ≡ true
        first true c h = refl
        first false c h = absurd (let z : ⊥ = cc in z)

        go : (rs : List TracedRun) → In r rs → list_any test (plans_of P rs) ≡ true
        go [] j = absurd j
        go (q ∷ rs) (inl same) = first (test (plan_for P q.found)) _ (ap (λ (x : TracedRun). test (plan_for P x.found)) (sym same) ∙ e)
        go (q ∷ rs) (inr j) = later (test (plan_for P q.found)) _ (go rs j)

    contained : (r : TracedRun) → In r runs → Contains plan (plan_for P r.found)
    contained r i = record {
      flush_after = λ s e. flushes.has s ∙ in_some (λ p. has_site p.flush_after s) r i e;
      fence_after = λ s e. fences.has s ∙ in_some (λ p. has_site p.fence_after s) r i e;
      hoist = λ s e. hoists.has s ∙ in_some (λ p. has_site p.hoist s) r i e;
    }

    named : (s : Site) → IsPlanned plan s → IsReportedIn runs s
    named s (inl h) =
        let q = any_run (λ p. has_site p.flush_after s) P runs (sym (flushes.has s) ∙ h) in
        record { run = q.0; there = q.1; reported = by.reported P q.0.found s (inl q.2) }
    named s (inr (inl h)) =
        let q = any_run (λ p. has_site p.fence_after s) P runs (sym (fences.has s) ∙ h) in
        record { run = q.0; there = q.1; reported = by.reported P q.0.found s (inr (inl q.2)) }
    named s (inr (inr h)) =
        let q = any_run (λ p. has_site p.hoist s) P runs (sym (hoists.has s) ∙ h) in
        record { run = q.0; there = q.1; reported = by.reported P q.0.found s (inr (inr q.2)) }

    clean_on : (rs : List TracedRun) → ((r : TracedRun) → In r rs → In r runs)
        → ((r : TracedRun) → In r rs → IsValid P r.input × IsFound P r.input r.found)
        → All (StaysClean (repaired P plan (direct P))) (map (λ (r : TracedRun). r.input) rs)
    clean_on [] among are = All-nil (StaysClean (repaired P plan (direct P)))
    clean_on (r ∷ rs) among are =
        let here = are r (inl refl) in
        All-cons (StaysClean (repaired P plan (direct P))) r.input (map (λ (q : TracedRun). q.input) rs)
        (stays_clean plan (direct P) (by.direct P sound) r.input r.found here.0 here.1 (contained r (among r (inl refl))))
        (clean_on rs (λ q i. among q (inr i)) (λ q i. are q (inr i)))

  pub of_many : (runs : List TracedRun) (a : Answer)
      → ((r : TracedRun) → In r runs → IsValid P r.input × IsFound P r.input r.found) → HasRepairedMany P runs a
      → HasPlannedMany P runs a
  of_many runs a are h = record {
    plan = h.plan;
    union = h.union;
    texts =
        written h.plan (direct P) (by.direct P sound) (map (λ (r : TracedRun). r.input) runs) a h.status_is h.out_is
        (clean_on runs h.plan h.union.flush_after h.union.fence_after h.union.hoist runs (λ r i. i) are);
    notes_is = h.notes_is;
    reported = named runs h.plan h.union.flush_after h.union.fence_after h.union.hoist;
  }
