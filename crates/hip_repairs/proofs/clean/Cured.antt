-- A repaired program's run on the input has nothing to report.
use Rattle.std.proofs.Common.{◌≡◌, ◌⊎◌, inl, inr, ℕ, zero, suc, ◌+◌, Bool, true, false, cond, List, [], ◌∷◌, ◌++◌, Option, Some, None, refl, sym, ap, ap₂, ◌∙◌, subst, arith}
use Rattle.std.specs.Prelude.{is_some}
use Rattle.std.specs.List.{flat_map, range_with_len}
use Rattle.hip_tree.specs.declared.program.Program.{Program}
use Rattle.hip_tree.specs.declared.site.Site.{Site}
use Rattle.hip_sound.specs.Rules.{PassesVerifier}
use Rattle.hip_runs.specs.declared.event.Ending.{Ending}
use Rattle.hip_runs.specs.declared.input.Input.{Input}
use Rattle.hip_runs.specs.declared.report.Findings.{Findings}
use Rattle.hip_runs.specs.declared.report.Report.{Report}
use Rattle.hip_runs.specs.Found.Marks.{IsFound}
use Rattle.hip_runs.specs.StoredParts.Parts.{In}
use Rattle.hip_runs.specs.Laws.PartLaws.{append-left, append-right}
use Rattle.hip_runs.specs.Found.Reports.{Range, checked_by, next_check, report_of, check_reports, reports}
use Rattle.hip_runs.specs.State.{Level, World, State, levels_of}
use Rattle.hip_runs.specs.Step.{event, step, on_ending, run, has_ended}
use Rattle.hip_runs.specs.Validity.{IsValid}
use Rattle.hip_repairs.specs.declared.plan.Plan.{Plan}
use Rattle.hip_repairs.specs.Choice.{Contains, plan_for}
use Rattle.hip_repairs.specs.Clean.{IsClean}
use Rattle.hip_repairs.specs.Mending.{MendsAll}
use Rattle.hip_repairs.specs.Harmless.{stands_inserted, matched}
use Rattle.hip_repairs.specs.StayOutside.{StayOutside}
use Rattle.hip_repairs.specs.Repaired.{repaired}
use Rattle.hip_repairs.proofs.simulation.Ahead.{Ahead}
use Rattle.hip_repairs.proofs.clean.Cure.{none_loose}
use Rattle.hip_repairs.proofs.clean.Mended.{contained_mends}
use Rattle.hip_repairs.proofs.clean.Events.{Checks, checks}
use Rattle.hip_repairs.proofs.simulation.Facts.{Lines}
use Rattle.hip_runs.specs.Laws.HistoryLaws.{has_history}
use Rattle.hip_repairs.proofs.clean.KeptAlong.{Held, held}
use Rattle.hip_repairs.proofs.functions.Lookup.{sound_callable}
use Rattle.hip_repairs.proofs.simulation.Pairs.{Related, related}
use Rattle.hip_repairs.proofs.simulation.Sim.{Follows, follows}
use Rattle.hip_repairs.specs.Laws.Callable.{IsCallable}

-- ---- the reports of a run's first steps

ended_next : (P : Program) (I : Input) (s : State) → has_ended s ≡ true → step P I s ≡ s
unfolding step on_ending
ended_next P I s e = go s.world.ending e
  where
    go : (o : Option Ending) → is_some o ≡ true → on_ending P I s o ≡ s
    go None h = absurd (let z : ⊥ = cc in z)
    go (Some x) h = refl

-- A run that has ended stays ended.
ended_later : (P : Program) (I : Input) (m k : ℕ) → has_ended (run P I m) ≡ true → has_ended (run P I (k + m)) ≡ true
unfolding run
ended_later P I m zero e = let q : 0 + m ≡ m = omega arith in subst (λ n. has_ended (run P I n) ≡ true) (sym q) e
ended_later P I m (suc k) e =
    let before = ended_later P I m k e in
    let q : suc k + m ≡ suc (k + m) = omega arith in
    subst (λ n. has_ended (run P I n) ≡ true) (sym q) (ap has_ended (ended_next P I (run P I (k + m)) before) ∙ before)

-- The reports of each check of a run's first steps are among theirs.
check_in : (P : Program) (I : Input) (j k : ℕ) (r : Report) → In r (check_reports (run P I j) (next_check P I (run P I j))) → In r (reports P I (k + suc j))
unfolding reports
check_in P I j zero r i = let q : 0 + suc j ≡ suc j = omega arith in subst (λ n. In r (reports P I n)) (sym q) (append-right (reports P I j) _ r i)
check_in P I j (suc k) r i = let q : suc k + suc j ≡ suc (k + suc j) = omega arith in subst (λ n. In r (reports P I n)) (sym q) (append-left (reports P I (k + suc j)) _ r (check_in P I j k r i))

flat_nothing : (f : ℕ → List Report) (xs : List ℕ) → ((x : ℕ) → f x ≡ []) → flat_map f xs ≡ []
flat_nothing f [] h = refl
flat_nothing f (x ∷ xs) h = ap₂ (λ ys zs. ys ++ zs) (h x) (flat_nothing f xs h)

lines_ahead : {P : Program} {plan : Plan} {skip : Site → Bool} {I : Input} {Holds : List Level → Lines → Lines → Type 0} {size : ℕ} {s s' : State} → Related P plan skip I Holds size s s' → Ahead s.lines s'.lines
lines_ahead (related t r b a h le) = a

same_world : {P : Program} {plan : Plan} {skip : Site → Bool} {I : Input} {Holds : List Level → Lines → Lines → Type 0} {size : ℕ} {s s' : State} → Related P plan skip I Holds size s s' → s'.world ≡ s.world
same_world (related t r b a h le) = refl

module _ (P : Program) (plan : Plan) (skip : Site → Bool) (I : Input) (good : IsCallable P) (valid : IsValid P I) (still : StayOutside P skip) (found : Findings) (is_found : IsFound P I found) (mends : MendsAll plan found) where
  abbrev Q : Program
  Q = repaired P plan skip

  -- A report of a check before the end is one of those found.
  report_found : (j : ℕ) (r : Report) → has_ended (run P I j) ≡ false → In r (check_reports (run P I j) (next_check P I (run P I j))) → In r found.reports
  report_found j r going i = go (before j is_found.steps)
    where
      before : (j n : ℕ) → ((k : ℕ) × (k + suc j ≡ n)) ⊎ ((k : ℕ) × (k + n ≡ j))
      before j zero = inr (j, omega arith)
      before zero (suc n) = inl (n, omega arith)
      before (suc j) (suc n) = more (before j n)
        where
          more : ((k : ℕ) × (k + suc j ≡ n)) ⊎ ((k : ℕ) × (k + n ≡ j)) → ((k : ℕ) × (k + suc (suc j) ≡ suc n)) ⊎ ((k : ℕ) × (k + suc n ≡ suc j))
          more (inl k) = inl (k.0, omega (arith, k.1))
          more (inr k) = inr (k.0, omega (arith, k.1))

      go : ((k : ℕ) × (k + suc j ≡ is_found.steps)) ⊎ ((k : ℕ) × (k + is_found.steps ≡ j)) → In r found.reports
      go (inl k) = subst (λ (f : Findings). In r f.reports) (sym is_found.is) (subst (λ n. In r (reports P I n)) k.1 (check_in P I j k.0 r i))
      go (inr k) = absurd (let e : has_ended (run P I j) ≡ true = subst (λ n. has_ended (run P I n) ≡ true) k.1 (ended_later P I is_found.steps k.0 is_found.ended) in let z : ⊥ = cc in z)

  -- A step of the repaired program has no report.
  step_clean : (n : ℕ) → check_reports (run Q I n) (next_check Q I (run Q I n)) ≡ []
  step_clean n = go (next_check Q I (run Q I n)) refl
    where
      j : ℕ
      j = matched P plan skip I n

      f : Follows P plan skip I good valid (Held P plan skip I) (held P plan skip I) n
      f = follows P plan skip I good valid (Held P plan skip I) (held P plan skip I) n

      going_of : (range : Range) → next_check Q I (run Q I n) ≡ Some range → (run Q I n).world.ending ≡ None
      going_of range e = by (run Q I n).world.ending refl e
        where
          by : (o : Option Ending) → (run Q I n).world.ending ≡ o → cond (is_some o) None (checked_by I (event Q I (run Q I n))) ≡ Some range → (run Q I n).world.ending ≡ None
          by None h q = h
          by (Some x) h q = absurd (let z : ⊥ = cc in z)

      checked_there : (range : Range) → next_check Q I (run Q I n) ≡ Some range → (run Q I n).world.ending ≡ None → checked_by I (event Q I (run Q I n)) ≡ Some range
      checked_there range e going = sym (ap (λ (o : Option Ending). cond (is_some o) None (checked_by I (event Q I (run Q I n)))) going) ∙ e

      at_check : (range : Range) → next_check Q I (run Q I n) ≡ Some range → check_reports (run Q I n) (Some range) ≡ []
      at_check range e =
          let going = going_of range e in
          let c = checks P plan skip I good (Held P plan skip I) f.size (run P I j) (run Q I n) f.pair going in
          by_mark c going (stands_inserted P plan skip (run Q I n)) refl
        where
          by_mark : Checks P plan skip I good (Held P plan skip I) (run P I j) (run Q I n) → (run Q I n).world.ending ≡ None → (t : Bool) → stands_inserted P plan skip (run Q I n) ≡ t → check_reports (run Q I n) (Some range) ≡ []
          by_mark c going true t = absurd (let x : None ≡ Some range = sym (c.inserted t) ∙ checked_there range e going in let z : ⊥ = cc in z)
          by_mark c going false t =
              let ending : (run P I j).world.ending ≡ None = ap (λ (w : World). w.ending) (sym (same_world f.pair)) ∙ going in
              let not_ended : has_ended (run P I j) ≡ false = ap is_some ending in
              let check : next_check P I (run P I j) ≡ Some range = ap (λ (b : Bool). cond b None (checked_by I (event P I (run P I j)))) not_ended ∙ ap (checked_by I) (sym (c.same t)) ∙ checked_there range e going in
              flat_nothing _ (range_with_len 0 (run Q I n).counts.steps)
              (λ made. ap (report_of (levels_of (run Q I n).frames) (suc (run Q I n).counts.entries))
              (none_loose P plan (run P I j) (has_history P I j) range (λ r i. mends r (report_found j r not_ended (subst (λ (o : Option Range). In r (check_reports (run P I j) o)) (sym check) i))) (run Q I n).lines (lines_ahead f.pair) (c.holds t still) made))

      go : (o : Option Range) → next_check Q I (run Q I n) ≡ o → check_reports (run Q I n) o ≡ []
      go None e = refl
      go (Some range) e = at_check range e

  pub clean_run : IsClean Q I
  unfolding reports
  clean_run zero = refl
  clean_run (suc n) = ap₂ (λ xs ys. xs ++ ys) (clean_run n) (step_clean n)

-- A plan that mends each report that was found, at whatever level, leaves nothing to report.
pub mended_clean : (P : Program) (plan : Plan) (skip : Site → Bool) (I : Input) (found : Findings) → PassesVerifier P → IsValid P I → StayOutside P skip → IsFound P I found → MendsAll plan found → IsClean (repaired P plan skip) I
mended_clean P plan skip I found sound valid still is_found mends = clean_run P plan skip I (sound_callable P sound) valid still found is_found mends

pub clean : (P : Program) (plan : Plan) (skip : Site → Bool) (I : Input) (found : Findings) → PassesVerifier P → IsValid P I → StayOutside P skip → IsFound P I found → Contains plan (plan_for P found) → IsClean (repaired P plan skip) I
clean P plan skip I found sound valid still is_found contains = mended_clean P plan skip I found sound valid still is_found (contained_mends P I plan found is_found contains)
