-- Two steps that store into the region have different entries, and what a crash may leave it may leave at an entry.
use Rattle.std.proofs.Common.{◌≡◌, ◌⊎◌, inl, inr, ℕ, zero, suc, ◌+◌, ◌-◌, ◌<◌, ◌≤◌, Bool, true, false, cond, List, Option, Some, None, refl, sym, ap, ◌∙◌, subst, arith}
use Rattle.std.specs.Prelude.{is_some}
use Rattle.hip_tree.specs.declared.program.Program.{Program}
use Rattle.hip_runs.specs.Crash.{IsCrashImage}
use Rattle.hip_runs.specs.Entry.{IsAtEntry}
use Rattle.hip_runs.specs.Laws.CrashLaws.{only_stores_add}
use Rattle.hip_runs.specs.Laws.NextLaws.{counts-next, entry_there, rests-ended}
use Rattle.hip_runs.specs.State.{Counts, State}
use Rattle.hip_runs.specs.Step.{event, event_on_ending, has_ended, has_entry, run}
use Rattle.hip_runs.specs.StoredParts.Since.{stores}
use Rattle.hip_runs.specs.declared.event.Ending.{Ending}
use Rattle.hip_runs.specs.declared.event.Event.{Event}
use Rattle.hip_runs.specs.declared.event.Event.TheVariants as events
use Rattle.hip_runs.specs.declared.input.Input.{Input}
use Rattle.hip_runs.specs.declared.report.Report.{Report}
use Rattle.hip_survival.specs.Survival.{IsOfStep}

stores_entry : (e : Event) → stores e ≡ true → has_entry e ≡ true
stores_entry (events.Store addr value size) h = refl
stores_entry events.Quiet h = absurd (let z : ⊥ = cc in z)
stores_entry (events.Print z) h = absurd (let q : ⊥ = cc in q)
stores_entry (events.Flush line size) h = refl
stores_entry (events.Persist line size) h = refl
stores_entry events.Fence h = refl
stores_entry (events.Assert addr size) h = refl
stores_entry (events.End e) h = refl

module _ (P : Program) (I : Input) where
  abbrev entries : ℕ → ℕ
  entries n = (run P I n).counts.entries

  grows : (n : ℕ) → entries n ≤ entries (suc n)
  grows n = go (has_ended (run P I n)) refl
    where
      by : (b : Bool) (m c : ℕ) → m ≡ cond b (suc c) c → c ≤ m
      by true m c e = omega (arith, e)
      by false m c e = omega (arith, e)

      go : (b : Bool) → has_ended (run P I n) ≡ b → entries n ≤ entries (suc n)
      go true e = let q : entries (suc n) ≡ entries n = ap (λ (s : State). s.counts.entries) (rests-ended P I n e) in
          omega (arith, q)
      go false e =
          by (has_entry (event P I (run P I n))) (entries (suc n)) (entries n)
          (ap (λ (c : Counts). c.entries) (counts-next P I n e))

  going : (n : ℕ) → stores (event P I (run P I n)) ≡ true → has_ended (run P I n) ≡ false
  unfolding event
  going n = go (run P I n).world.ending
    where
      go : (o : Option Ending) → stores (event_on_ending P I (run P I n) o) ≡ true → is_some o ≡ false
      go None h = refl
      go (Some e) h = absurd (let z : ⊥ = cc in z)

  store_counts : (n : ℕ) → stores (event P I (run P I n)) ≡ true → entries (suc n) ≡ suc (entries n)
  store_counts n h =
      ap (λ (c : Counts). c.entries) (counts-next P I n (going n h))
      ∙ ap (λ b. cond b (suc (entries n)) (entries n)) (stores_entry (event P I (run P I n)) h)

  later : (n d : ℕ) → entries n ≤ entries (n + d)
  later n zero =
      let e : n ≡ n + 0 = omega arith in
      let q : entries n ≡ entries (n + 0) = ap entries e in
      omega (arith, q)
  later n (suc d) =
      let e : suc (n + d) ≡ n + suc d = omega arith in
      let q : entries (suc (n + d)) ≡ entries (n + suc d) = ap entries e in
      let h = later n d in
      let g = grows (n + d) in
      omega (arith, q, h, g)

  not_sooner : (t u : ℕ) → stores (event P I (run P I t)) ≡ true → t < u → entries t < entries u
  not_sooner t u h lt =
      let e : suc t + (u - suc t) ≡ u = omega (arith, lt) in
      let q : entries (suc t + (u - suc t)) ≡ entries u = ap entries e in
      let l = later (suc t) (u - suc t) in
      let c = store_counts t h in
      omega (arith, q, l, c)

  -- A report is of the store of only one step.
  pub one_step : (t u : ℕ) (r : Report) → IsOfStep P I t r → IsOfStep P I u r → t ≡ u
  one_step t u r a b = go (three t u)
    where
      same : entries t + 1 ≡ entries u + 1
      same = sym a.entry ∙ b.entry

      three : (a b : ℕ) → (a < b) ⊎ ((a ≡ b) ⊎ (b < a))
      three a b = grind arith

      go : (t < u) ⊎ ((t ≡ u) ⊎ (u < t)) → t ≡ u
      go (inl lt) = absurd (let h = not_sooner t u a.store lt in omega (arith, h, same))
      go (inr (inl e)) = e
      go (inr (inr lt)) = absurd (let h = not_sooner u t b.store lt in omega (arith, h, same))

  -- Steps without an entry leave the crash images as they were.
  back : (content : List ℕ) (m d : ℕ) → entries (m + d) ≤ entries m → IsCrashImage I (run P I (m + d)) content
      → IsCrashImage I (run P I m) content
  back content m zero few h =
      let e : m + 0 ≡ m = omega arith in
      subst (λ k. IsCrashImage I (run P I k) content) e h
  back content m (suc d) few h = go (λ f i. back content m d f i) (stores (event P I (run P I (m + d)))) refl
    where
      e : m + suc d ≡ suc (m + d)
      e = omega arith

      few' : entries (suc (m + d)) ≤ entries m
      few' = subst (λ k. entries k ≤ entries m) e few

      there : IsCrashImage I (run P I (suc (m + d))) content
      there = subst (λ k. IsCrashImage I (run P I k) content) e h

      go : (entries (m + d) ≤ entries m → IsCrashImage I (run P I (m + d)) content → IsCrashImage I (run P I m) content)
          → (b : Bool) → stores (event P I (run P I (m + d))) ≡ b → IsCrashImage I (run P I m) content
      go rest true s =
          let c = store_counts (m + d) s in
          let l = later m d in
          absurd (omega (arith, c, l, few'))
      go rest false s =
          let g = grows (m + d) in
          rest (omega (arith, g, few')) (only_stores_add P I (m + d) content s there)

  -- What a crash may leave in some state, it may leave at the entry of the trace that came last.
  pub crash_at_entry : (n : ℕ) (content : List ℕ) → IsCrashImage I (run P I n) content
      → (m : ℕ) × IsAtEntry P I (entries n) m × IsCrashImage I (run P I m) content
  crash_at_entry n content h =
      let at = entry_there P I (entries n) n (omega arith) in
      let m = at.0 in
      let e : m + (n - m) ≡ n = let le : m ≤ n = at.1 in omega (arith, le) in
      let enough : entries n ≤ entries m = at.2.enough in
      let q : entries (m + (n - m)) ≡ entries n = ap entries e in
      (m, at.2, back content m (n - m) (omega (arith, enough, q)) (subst (λ k. IsCrashImage I (run P I k) content) (sym e) h))
