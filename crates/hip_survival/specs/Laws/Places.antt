-- A part of a store keeps its place in its line, from the step after its store on.
use Rattle.std.proofs.Common.{◌≡◌, ◌⊎◌, inl, inr, ℕ, zero, suc, ◌+◌, ◌-◌, ◌<◌, ◌≤◌, Bool, true, false, cond, List, [], ◌∷◌, ◌++◌, length, Option, Some, None, option_map, slice_get, refl, sym, ap, ◌∙◌, subst, arith}
use Rattle.hip_tree.specs.declared.program.Program.{Program}
use Rattle.hip_lines.specs.Line.{Line, with_part, has_bytes, stored}
use Rattle.hip_lines.specs.Laws.LineLaws.{slice_get-change_range}
use Rattle.hip_lines.specs.Laws.LooseLaws.{get-map, get-of_map}
use Rattle.hip_runs.specs.Laws.LineOrder.{lines_well}
use Rattle.hip_runs.specs.Laws.SinceLaws.{get_mapped}
use Rattle.hip_runs.specs.Laws.StepLaws.{Cases, counted-steps, step-cases}
use Rattle.hip_runs.specs.State.{Flush, StorePart, State, levels_of, site_of}
use Rattle.hip_runs.specs.Step.{run}
use Rattle.hip_runs.specs.StoredParts.After.{flushed_by}
use Rattle.hip_runs.specs.StoredParts.Persistence.{fence_line, fenced_lines, flush_line, noted_fence, noted_flush, part_of_store}
use Rattle.hip_runs.specs.StoredParts.Since.{IsPartIn}
use Rattle.hip_runs.specs.declared.input.Input.{Input}

-- The line has at the place a part of the store of this step.
pub record HasPlace (o : Option (Line StorePart)) (k step : ℕ) : Type 0 where
  pub part : StorePart
  pub there : IsPartIn o k part
  pub step_is : part.step ≡ step

-- ---- the last of some items

get_longer : {A : Type 0} (xs ys : List A) (x : A) (k : ℕ) → slice_get xs k ≡ Some x
    → slice_get (xs ++ ys) k ≡ Some x
get_longer [] ys x k e = absurd (let z : ⊥ = cc in z)
get_longer (z ∷ xs) ys x zero e = e
get_longer (z ∷ xs) ys x (suc k) e = get_longer xs ys x k e

get_last : {A : Type 0} (xs : List A) (y x : A) (k : ℕ) → slice_get (xs ++ y ∷ []) k ≡ Some x
    → (slice_get xs k ≡ Some x) ⊎ (y ≡ x)
get_last [] y x zero e = inr (let z : y ≡ x = cc in z)
get_last [] y x (suc k) e = absurd (let z : ⊥ = cc in z)
get_last (z ∷ xs) y x zero e = inl e
get_last (z ∷ xs) y x (suc k) e = get_last xs y x k e

-- ---- one step

module _ (m k : ℕ) where
  -- The part that has the place before has it after, with the same store.
  abbrev Stays : List (Line StorePart) → List (Line StorePart) → Type 0
  Stays ls ls' = (t : ℕ) → HasPlace (slice_get ls m) k t → HasPlace (slice_get ls' m) k t

  -- The part that has the place after had it before, with the same store, or is of the store of step n.
  abbrev Came : ℕ → List (Line StorePart) → List (Line StorePart) → Type 0
  Came n ls ls' = (t : ℕ) → HasPlace (slice_get ls' m) k t → HasPlace (slice_get ls m) k t ⊎ (t ≡ n)

  stays_flushed : (I : Input) (flush : Flush) (a n : ℕ) (ls : List (Line StorePart))
      → Stays ls (flushed_by I flush a n ls)
  stays_flushed I flush a n ls t h =
      subst (λ o. HasPlace o k t) (sym (slice_get-change_range (λ _ l. flush_line flush l) (a - I.base) n ls m))
      (go (has_bytes m (a - I.base) n) (slice_get ls m) h)
    where
      go : (b : Bool) (o : Option (Line StorePart)) → HasPlace o k t
          → HasPlace (option_map (λ l. cond b (flush_line flush l) l) o) k t
      go b None h = absurd h.there
      go true (Some l) h = record {
        part = noted_flush flush h.part;
        there = get-map (noted_flush flush) l.parts k h.part h.there;
        step_is = h.step_is;
      }
      go false (Some l) h = h

  stays_fenced : (ls : List (Line StorePart)) → Stays ls (fenced_lines ls)
  stays_fenced ls t h = subst (λ o. HasPlace o k t) (sym (get_mapped fence_line ls m)) (go (slice_get ls m) h)
    where
      go : (o : Option (Line StorePart)) → HasPlace o k t → HasPlace (option_map fence_line o) k t
      go None h = absurd h.there
      go (Some l) h = record {
        part = noted_fence h.part;
        there = get-map noted_fence l.parts k h.part h.there;
        step_is = h.step_is;
      }

  stays_stored : (part : ℕ → StorePart) (o n : ℕ) (ls : List (Line StorePart)) → Stays ls (stored part o n ls)
  stays_stored part o n ls t h =
      subst (λ z. HasPlace z k t) (sym (slice_get-change_range (λ j l. with_part (part j) l) o n ls m))
      (go (has_bytes m o n) (slice_get ls m) h)
    where
      go : (b : Bool) (z : Option (Line StorePart)) → HasPlace z k t
          → HasPlace (option_map (λ l. cond b (with_part (part m) l) l) z) k t
      go b None h = absurd h.there
      go true (Some l) h = record {
        part = h.part;
        there = get_longer l.parts (part m ∷ []) h.part k h.there;
        step_is = h.step_is;
      }
      go false (Some l) h = h

  stays_cases : (I : Input) (s : State) → Cases I s (λ e ls. Stays s.lines ls)
  stays_cases I s = record {
    plain = λ e p t h. h;
    store = λ f fs t addr bytes e w. stays_stored _ (addr - I.base) (length bytes) s.lines;
    flush = λ f fs t addr n e. stays_flushed I _ addr n s.lines;
    persist = λ f fs t addr n e step h. stays_fenced _ step (stays_flushed I _ addr n s.lines step h);
    fence = stays_fenced s.lines;
  }

  came_flushed : (I : Input) (flush : Flush) (a n : ℕ) (ls : List (Line StorePart))
      → (t : ℕ) → HasPlace (slice_get (flushed_by I flush a n ls) m) k t → HasPlace (slice_get ls m) k t
  came_flushed I flush a n ls t h =
      go (has_bytes m (a - I.base) n) (slice_get ls m)
      (subst (λ o. HasPlace o k t) (slice_get-change_range (λ _ l. flush_line flush l) (a - I.base) n ls m) h)
    where
      go : (b : Bool) (o : Option (Line StorePart))
          → HasPlace (option_map (λ l. cond b (flush_line flush l) l) o) k t → HasPlace o k t
      go b None h = absurd h.there
      go true (Some l) h =
          let r = get-of_map (noted_flush flush) l.parts k h.part h.there in
          record { part = r.0; there = r.1; step_is = ap (λ (x : StorePart). x.step) r.2 ∙ h.step_is }
      go false (Some l) h = h

  came_fenced : (ls : List (Line StorePart)) (t : ℕ) → HasPlace (slice_get (fenced_lines ls) m) k t
      → HasPlace (slice_get ls m) k t
  came_fenced ls t h = go (slice_get ls m) (subst (λ o. HasPlace o k t) (get_mapped fence_line ls m) h)
    where
      go : (o : Option (Line StorePart)) → HasPlace (option_map fence_line o) k t → HasPlace o k t
      go None h = absurd h.there
      go (Some l) h =
          let r = get-of_map noted_fence l.parts k h.part h.there in
          record { part = r.0; there = r.1; step_is = ap (λ (x : StorePart). x.step) r.2 ∙ h.step_is }

  came_stored : (now : ℕ) (part : ℕ → StorePart) (o n : ℕ) (ls : List (Line StorePart))
      → (part m).step ≡ now
      → Came now ls (stored part o n ls)
  came_stored now part o n ls made t h =
      go (has_bytes m o n) (slice_get ls m)
      (subst (λ z. HasPlace z k t) (slice_get-change_range (λ j l. with_part (part j) l) o n ls m) h)
    where
      go : (b : Bool) (z : Option (Line StorePart))
          → HasPlace (option_map (λ l. cond b (with_part (part m) l) l) z) k t → HasPlace z k t ⊎ (t ≡ now)
      go b None h = absurd h.there
      go true (Some l) h = which (get_last l.parts (part m) h.part k h.there)
        where
          which : (slice_get l.parts k ≡ Some h.part) ⊎ (part m ≡ h.part)
              → HasPlace (Some l) k t ⊎ (t ≡ now)
          which (inl e) = inl (record { part = h.part; there = e; step_is = h.step_is })
          which (inr e) = inr (sym h.step_is ∙ sym (ap (λ (x : StorePart). x.step) e) ∙ made)
      go false (Some l) h = inl h

  came_cases : (P : Program) (I : Input) (n : ℕ) → Cases I (run P I n) (λ e ls. Came n (run P I n).lines ls)
  came_cases P I n = record {
    plain = λ e p t h. inl h;
    store =
        λ f fs t addr bytes e w.
        came_stored n (part_of_store (run P I n).counts (site_of f) (levels_of (f ∷ fs)) (addr - I.base) bytes)
        (addr - I.base) (length bytes) (run P I n).lines (counted-steps P I n t.going);
    flush = λ f fs t addr size e step h. inl (came_flushed I _ addr size (run P I n).lines step h);
    persist =
        λ f fs t addr size e step h. inl (came_flushed I _ addr size (run P I n).lines step (came_fenced _ step h));
    fence = λ step h. inl (came_fenced (run P I n).lines step h);
  }

  -- ---- a run

  module _ (P : Program) (I : Input) where
    abbrev pub At : ℕ → ℕ → Type 0
    At n t = HasPlace (slice_get (run P I n).lines m) k t

    onward : (n d t : ℕ) → At n t → At (n + d) t
    unfolding run
    onward n zero t h = let e : n ≡ n + 0 = omega arith in subst (λ i. At i t) e h
    onward n (suc d) t h =
        let e : suc (n + d) ≡ n + suc d = omega arith in
        subst (λ i. At i t) e
        (step-cases P I (run P I (n + d)) (λ e ls. Stays (run P I (n + d)).lines ls)
        (stays_cases I (run P I (n + d))) t (onward n d t h))

    one_before : (n t : ℕ) → At (suc n) t → t < n → At n t
    unfolding run
    one_before n t h lt =
        go (step-cases P I (run P I n) (λ e ls. Came n (run P I n).lines ls) (came_cases P I n) t h)
      where
        go : At n t ⊎ (t ≡ n) → At n t
        go (inl a) = a
        go (inr e) = absurd (omega (arith, e, lt))

    back : (n d t : ℕ) → At (n + d) t → t < n → At n t
    back n zero t h lt = let e : n + 0 ≡ n = omega arith in subst (λ i. At i t) e h
    back n (suc d) t h lt =
        let e : n + suc d ≡ suc (n + d) = omega arith in
        back n d t (one_before (n + d) t (subst (λ i. At i t) e h) (omega (arith, lt))) lt

    -- A part has its place in each state after its store.
    pub at_time : (n t : ℕ) → At n t → (i : ℕ) → t < i → At i t
    at_time n t h i lt = go (order n i)
      where
        order : (a b : ℕ) → (a ≤ b) ⊎ (b ≤ a)
        order a b = grind arith

        go : (n ≤ i) ⊎ (i ≤ n) → At i t
        go (inl le) = let e : n + (i - n) ≡ i = omega (arith, le) in subst (λ j. At j t) e (onward n (i - n) t h)
        go (inr le) =
            let e : n ≡ i + (n - i) = omega (arith, le) in back i (n - i) t (subst (λ j. At j t) e h) lt

    -- The store of a part is an earlier step.
    pub made_before : (n t : ℕ) → At n t → t < n
    made_before n t h = go (slice_get (run P I n).lines m) refl h
      where
        go : (o : Option (Line StorePart)) → slice_get (run P I n).lines m ≡ o → HasPlace o k t → t < n
        go None e h = absurd h.there
        go (Some l) e h =
            subst (λ j. j < n) h.step_is ((lines_well P I n m l e).made k h.part h.there)

    one_there : (o : Option (Line StorePart)) (t u : ℕ) → HasPlace o k t → HasPlace o k u → t ≡ u
    one_there None t u a b = absurd a.there
    one_there (Some l) t u a b =
        let same : a.part ≡ b.part = (let e : Some a.part ≡ Some b.part = sym a.there ∙ b.there in cc) in
        sym a.step_is ∙ ap (λ (x : StorePart). x.step) same ∙ b.step_is

    -- In all states, the place has a part of the same store.
    pub one_store : (n t i u : ℕ) → At n t → At i u → t ≡ u
    one_store n t i u a b = go (order i t)
      where
        order : (a b : ℕ) → (a ≤ b) ⊎ (b < a)
        order a b = grind arith

        go : (i ≤ t) ⊎ (t < i) → t ≡ u
        go (inr lt) = one_there (slice_get (run P I i).lines m) t u (at_time n t a i lt) b
        go (inl le) =
            let early : u < i = made_before i u b in
            let late : t < n = made_before n t a in
            one_there (slice_get (run P I n).lines m) t u a (at_time i u b n (omega (arith, early, late, le)))
