-- Marks are the same exactly if they are equal; and each run has findings, and only one.
use Rattle.std.proofs.lemmas.List.{append-nil}
use Rattle.std.proofs.Common.{◌≡◌, ℕ, Bool, true, false, ◌&&◌, nat_eq, refl, ap, ap₂, subst, arith, ◌⊎◌, inl, inr, zero, suc, ◌+◌, cond, List, [], ◌∷◌, ◌++◌, Option, Some, None, sym, ◌∙◌}
use Rattle.hip_tree.specs.declared.site.Site.{Site}
use Rattle.std.specs.Cmp.{IsEquivalence, both_ways, nat_eq_equiv}
use Rattle.std.specs.List.{list_any, IsDistinct}
use Rattle.hip_types.specs.Laws.DistinctLaws.{met-distinct}
use Rattle.hip_tree.specs.Laws.SiteLaws.{same_site_equal, site_same}
use Rattle.hip_tree.specs.Sites.{same_site}
use Rattle.hip_runs.specs.declared.event.Object.{Object}
use Rattle.hip_runs.specs.declared.report.Mark.{Mark}
use Rattle.hip_runs.specs.Found.Marks.{same_object, same_mark, IsFound, findings, pointed, hit, unless_ended, frame_marks, step_marks, event_hits}
use Rattle.std.specs.Prelude.{is_some, ℤ, ◌+ℤ◌}
use Rattle.hip_types.specs.Distinct.{met}
use Rattle.hip_tree.specs.declared.program.Program.{Program}
use Rattle.hip_runs.specs.declared.event.Ending.{Ending}
use Rattle.hip_runs.specs.declared.input.Input.{Input}
use Rattle.hip_runs.specs.declared.report.Findings.{Findings}
use Rattle.hip_runs.specs.declared.report.Report.{Report}
use Rattle.hip_runs.specs.Ends.{Ends}
use Rattle.hip_runs.specs.Laws.EndLaws.{runs_end}
use Rattle.hip_runs.specs.Found.Reports.{checked_by, check_reports, reports}
use Rattle.hip_runs.specs.State.{State}
use Rattle.hip_runs.specs.Step.{event, event_on_ending, step, on_ending, run, has_ended}
use Rattle.hip_runs.specs.declared.report.Marks.{Marks}
use Rattle.hip_runs.specs.Found.Scores.{Worth, is_worth_of, worth_at, is_marked, with_mark, worth, worth_in, worth_of, worths, worths_from}
use Rattle.hip_runs.specs.Laws.Members.{both_true, equal_true, true_both, true_equal}
use Rattle.hip_runs.specs.declared.event.Object.TheVariants as objects

pub same_object_equal : (a b : Object) → same_object a b ≡ true → a ≡ b
same_object_equal (objects.Global a) (objects.Global b) h = ap objects.Global (equal_true a b h)
same_object_equal (objects.Slot a) (objects.Slot b) h = ap objects.Slot (same_site_equal a b h)
same_object_equal (objects.Global a) (objects.Slot b) h = absurd (let z : ⊥ = cc in z)
same_object_equal (objects.Slot a) (objects.Global b) h = absurd (let z : ⊥ = cc in z)

pub object_same : (a : Object) → same_object a a ≡ true
object_same (objects.Global a) = true_equal a a refl
object_same (objects.Slot a) = site_same a

pub same_mark_equal : (a b : Mark) → same_mark a b ≡ true → a ≡ b
same_mark_equal a b h =
    let p = both_true _ _ h in
    let q = both_true _ _ p.1 in
    ap₂ (λ (s : Site) (m : Mark). record { site = s; operand = m.operand; object = m.object })
    (same_site_equal _ _ p.0)
    (ap₂ (λ (n : ℕ) (o : Object). record { site = a.site; operand = n; object = o }) (equal_true _ _ q.0)
    (same_object_equal _ _ q.1))

pub mark_same : (a b : Mark) → a ≡ b → same_mark a b ≡ true
mark_same a b e =
    subst (λ x. same_mark a x ≡ true) e (true_both (site_same a.site)
    (true_both (true_equal a.operand a.operand refl) (object_same a.object)))

-- ---- marks are met once

pub same_mark-equivalence : IsEquivalence same_mark
same_mark-equivalence = record {
  refl = λ a. mark_same a a refl;
  symm =
      λ a b. both_ways (same_mark a b) (same_mark b a) (λ e. mark_same b a (sym (same_mark_equal a b e)))
      (λ e. mark_same a b (sym (same_mark_equal b a e)));
  congr = λ a b c e. ap (λ m. same_mark m c) (same_mark_equal a b e);
}

-- To add new items list by list gives the same as to add the items of the appended lists.
pub met-append : {A : Type 0} (same : A → A → Bool) (xs ys zs : List A)
    → met same xs (ys ++ zs) ≡ met same (met same xs ys) zs
met-append same xs [] zs = refl
met-append same xs (y ∷ ys) zs = met-append same (cond (list_any (same y) xs) xs (xs ++ y ∷ [])) ys zs

pub pointed-distinct : (P : Program) (I : Input) (n : ℕ) → IsDistinct same_mark (pointed P I n)
unfolding pointed IsDistinct
pointed-distinct P I zero = tt
pointed-distinct P I (suc n) =
    met-distinct same_mark-equivalence (pointed P I n) (step_marks P I (run P I n)) (pointed-distinct P I n)

pub hit-distinct : (P : Program) (I : Input) (n : ℕ) → IsDistinct nat_eq (hit P I n)
unfolding hit IsDistinct
hit-distinct P I zero = tt
hit-distinct P I (suc n) =
    met-distinct nat_eq_equiv (hit P I n) (event_hits P I (event P I (run P I n))) (hit-distinct P I n)

-- ---- worths by one pass over the marks

module _ (hit : List ℕ) (site : Site) (operand : ℕ) where
  -- The sum after a mark: its worth is added if it is of the site and the operand.
  abbrev more : ℤ → Mark → ℤ
  more sum m = cond (same_site m.site site && nat_eq m.operand operand) (sum +ℤ worth_of (is_marked hit m.object)) sum

  -- Two tests for the same operand agree.
  same_test : (w : Worth) (m : Mark) → is_worth_of w m.site m.operand ≡ true
      → is_worth_of w site operand ≡ same_site m.site site && nat_eq m.operand operand
  same_test w m e =
      let p = both_true (same_site w.site m.site) _ e in
      ap₂ (λ (s : Site) (n : ℕ). same_site s site && nat_eq n operand) (same_site_equal w.site m.site p.0)
      (equal_true w.operand m.operand p.1)

  other_test : (w : Worth) (m : Mark) → is_worth_of w m.site m.operand ≡ false
      → is_worth_of w site operand ≡ true
      → same_site m.site site && nat_eq m.operand operand ≡ false
  other_test w m e f = go (same_site m.site site && nat_eq m.operand operand) refl
    where
      go : (b : Bool) → same_site m.site site && nat_eq m.operand operand ≡ b → b ≡ false
      go false g = refl
      go true g =
          let p = both_true (same_site w.site site) _ f in
          let q = both_true (same_site m.site site) _ g in
          let s : m.site ≡ w.site = same_site_equal m.site site q.0 ∙ sym (same_site_equal w.site site p.0) in
          let n : m.operand ≡ w.operand = equal_true m.operand operand q.1
          ∙ sym (equal_true w.operand operand p.1) in
          let t : is_worth_of w m.site m.operand ≡ true =
          ap₂ (λ (u : Site) (k : ℕ). is_worth_of w u k) s n
          ∙ true_both (site_same w.site) (true_equal w.operand w.operand refl) in
          absurd (let z : false ≡ true = sym e ∙ t in let u : ⊥ = cc in u)

  worth-with_mark : (ws : List Worth) (m : Mark)
      → worth_at (with_mark hit ws m) site operand ≡ more (worth_at ws site operand) m
  worth-with_mark [] m = refl
  worth-with_mark (w ∷ ws) m = go (is_worth_of w m.site m.operand) refl (worth-with_mark ws m)
    where
      by : (b c : Bool) → b ≡ c
          → cond b (w.worth +ℤ worth_of (is_marked hit m.object))
          (worth_at ws site operand)
          ≡ cond c (cond b w.worth (worth_at ws site operand) +ℤ worth_of (is_marked hit m.object))
          (cond b w.worth (worth_at ws site operand))
      by true true e = refl
      by false false e = refl
      by true false e = absurd (let z : ⊥ = cc in z)
      by false true e = absurd (let z : ⊥ = cc in z)

      beside : (b : Bool) → is_worth_of w site operand ≡ b → is_worth_of w m.site m.operand ≡ false
          → worth_at (with_mark hit ws m) site operand ≡ more (worth_at ws site operand) m →
          cond b w.worth (worth_at (with_mark hit ws m) site operand)
          ≡ more (cond b w.worth (worth_at ws site operand)) m
      beside true f e next =
          sym (ap (λ t. cond t (w.worth +ℤ worth_of (is_marked hit m.object)) w.worth) (other_test w m e f))
      beside false f e next = next

      go : (b : Bool) → is_worth_of w m.site m.operand ≡ b
          → worth_at (with_mark hit ws m) site operand ≡ more (worth_at ws site operand) m →
          worth_at (cond b (record {
            site = w.site;
            operand = w.operand;
            worth = w.worth +ℤ worth_of (is_marked hit m.object);
          } ∷ ws) (w ∷ with_mark hit ws m)) site operand
          ≡ more (worth_at (w ∷ ws) site operand) m
      go true e next =
          by (is_worth_of w site operand) (same_site m.site site && nat_eq m.operand operand) (same_test w m e)
      go false e next = beside (is_worth_of w site operand) refl e next

  worths-in : (ws : List Worth) (ms : List Mark)
      → worth_at (worths_from hit ws ms) site operand ≡ worth_in hit site operand ms (worth_at ws site operand)
  worths-in ws [] = refl
  worths-in ws (m ∷ ms) =
      worths-in (with_mark hit ws m) ms ∙ ap (λ sum. worth_in hit site operand ms sum) (worth-with_mark ws m)

-- The table gives each operand its worth.
pub worths-are : (marks : Marks) (site : Site) (operand : ℕ)
    → worth_at (worths marks) site operand ≡ worth marks site operand
worths-are marks site operand = worths-in marks.hit site operand [] marks.pointed

-- ---- findings

ended_next : (P : Program) (I : Input) (s : State) → has_ended s ≡ true → step P I s ≡ s
unfolding step on_ending
ended_next P I s e = go s.world.ending e
  where
    go : (o : Option Ending) → is_some o ≡ true → on_ending P I s o ≡ s
    go None h = absurd (let z : ⊥ = cc in z)
    go (Some x) h = refl

run_next : (P : Program) (I : Input) (n : ℕ) → has_ended (run P I n) ≡ true → run P I (suc n) ≡ run P I n
unfolding run
run_next P I n e = ended_next P I (run P I n) e

same_reports : (P : Program) (I : Input) (n : ℕ) → has_ended (run P I n) ≡ true
    → reports P I (suc n) ≡ reports P I n
unfolding reports
same_reports P I n e =
    ap (λ b. reports P I n ++ check_reports (run P I n) (cond b None (checked_by I (event P I (run P I n))))) e
    ∙ append-nil (reports P I n)

same_pointed : (P : Program) (I : Input) (n : ℕ) → has_ended (run P I n) ≡ true
    → pointed P I (suc n) ≡ pointed P I n
unfolding pointed
same_pointed P I n e =
    ap (λ b. met same_mark (pointed P I n) (cond b []
    (unless_ended (event P I (run P I n)) (frame_marks P I (run P I n).frames)))) e

no_hits : (P : Program) (I : Input) (s : State) → has_ended s ≡ true → event_hits P I (event P I s) ≡ []
unfolding event
no_hits P I s e = go s.world.ending e
  where
    go : (o : Option Ending) → is_some o ≡ true → event_hits P I (event_on_ending P I s o) ≡ []
    go None h = absurd (let z : ⊥ = cc in z)
    go (Some x) h = refl

same_hit : (P : Program) (I : Input) (n : ℕ) → has_ended (run P I n) ≡ true → hit P I (suc n) ≡ hit P I n
unfolding hit
same_hit P I n e = ap (λ ys. met nat_eq (hit P I n) ys) (no_hits P I (run P I n) e)

made_of : List Report → List Mark → List ℕ → Findings
made_of rs ms hs = record { reports = rs; marks = record { pointed = ms; hit = hs } }

-- A run that has ended finds no more.
found_next : (P : Program) (I : Input) (n : ℕ) → has_ended (run P I n) ≡ true
    → findings P I (suc n) ≡ findings P I n
unfolding made_of
found_next P I n e =
    ap (λ rs. made_of rs (pointed P I (suc n)) (hit P I (suc n))) (same_reports P I n e)
    ∙ ap (λ ms. made_of (reports P I n) ms (hit P I (suc n))) (same_pointed P I n e)
    ∙ ap (λ hs. made_of (reports P I n) (pointed P I n) hs) (same_hit P I n e)

-- After n steps the run has ended, and has found what it had found after m steps.
record StaysFound (P : Program) (I : Input) (m n : ℕ) : Type 0 where
  ended : has_ended (run P I n) ≡ true
  same : findings P I n ≡ findings P I m

found_later : (P : Program) (I : Input) (m k : ℕ) → has_ended (run P I m) ≡ true → StaysFound P I m (k + m)
found_later P I m zero e =
    let q : m ≡ 0 + m = omega arith in subst (StaysFound P I m) q (record { ended = e; same = refl })
found_later P I m (suc k) e =
    let before = found_later P I m k e in
    let q : suc (k + m) ≡ suc k + m = omega arith in
    subst (StaysFound P I m) q (record {
      ended = ap has_ended (run_next P I (k + m) before.ended) ∙ before.ended;
      same = found_next P I (k + m) before.ended ∙ before.same;
    })

further : (m n : ℕ) → ((k : ℕ) × (n ≡ k + m)) ⊎ ((k : ℕ) × (m ≡ k + n))
further zero n = inl (n, omega arith)
further (suc m) zero = inr (suc m, omega arith)
further (suc m) (suc n) = go (further m n)
  where
    go : ((k : ℕ) × (n ≡ k + m)) ⊎ ((k : ℕ) × (m ≡ k + n))
        → ((k : ℕ) × (suc n ≡ k + suc m)) ⊎ ((k : ℕ) × (suc m ≡ k + suc n))
    go (inl h) = inl (h.0, omega (arith, h.1))
    go (inr h) = inr (h.0, omega (arith, h.1))

pub found_exists : (P : Program) (I : Input) → (found : Findings) × IsFound P I found
found_exists P I = let e : Ends P I = runs_end P I in (findings P I e.0, record { steps = e.0; ended = e.1; is = refl })

pub found_is_one : (P : Program) (I : Input) (a b : Findings) → IsFound P I a → IsFound P I b → a ≡ b
found_is_one P I a b f g = go (further f.steps g.steps)
  where
    go : ((k : ℕ) × (g.steps ≡ k + f.steps)) ⊎ ((k : ℕ) × (f.steps ≡ k + g.steps)) → a ≡ b
    go (inl h) = f.is ∙ sym (found_later P I f.steps h.0 f.ended).same ∙ ap (findings P I) (sym h.1) ∙ sym g.is
    go (inr h) = f.is ∙ ap (findings P I) h.1 ∙ (found_later P I g.steps h.0 g.ended).same ∙ sym g.is
