-- From the call of a clone to the fence after it: what was stored since then was stored by clones.
use Rattle.std.proofs.Common.{◌≡◌, ◌≢◌, ◌⊎◌, inl, inr, ⊎_elim, ℕ, zero, suc, ◌+◌, ◌-◌, ◌<◌, ◌≤◌, Bool, true, false, nat_lt, nat_eq, List, [], ◌∷◌, ◌++◌, length, Option, Some, None, slice_get, refl, sym, ap, ap₂, ◌∙◌, subst, arith, ltb-true, length-append}
use Rattle.std.proofs.lemmas.Bool.Decides.{nat_tests}
use Rattle.hip_tree.specs.declared.instr.Instr.{Instr}
use Rattle.hip_tree.specs.declared.instr.Instr.TheVariants.{Binary, Compare, Select, Cast, Alloca, Load, Store, Gep, Call}
use Rattle.hip_tree.specs.declared.program.Program.{Program}
use Rattle.hip_runs.specs.declared.event.Ending.{Ending}
use Rattle.hip_runs.specs.declared.input.Input.{Input}
use Rattle.hip_runs.specs.Laws.HistoryLaws.{has_history}
use Rattle.hip_runs.specs.StoredParts.Parts.{PartOf}
use Rattle.hip_runs.specs.Places.{body_at}
use Rattle.hip_runs.specs.State.{StorePart, Frame, State}
use Rattle.hip_runs.specs.Step.{with_register, next, on_ending, step, run}
use Rattle.hip_repairs.specs.Covered.{is_numbered_from, IsCallFrom, IsCallOf, IsAfterCloneCall, IsLastBefore}
use Rattle.hip_repairs.proofs.simulation.Facts.{Lines}
use Rattle.hip_repairs.proofs.covered.Moves.{instr_here, IsCall, Moves, ends, goes_on, jumps, enters, returns, IsOld, IsNew, Out, step_out}

-- Each part that was made in step j or later belongs to a function with a number of at least N.
abbrev pub SinceClones : ℕ → ℕ → Lines → Type 0
SinceClones N j ls = (x : StorePart) → PartOf ls x → j ≤ x.step → N ≤ x.site.function

-- ---- calls

call_from : (Q : Program) (N : ℕ) (o : Option Instr) → IsCallFrom Q N o → IsCall o
call_from Q N (Some (Call dest ret callee args)) h = tt
call_from Q N (Some (Binary dest op flags width x y)) h = absurd h
call_from Q N (Some (Compare dest pred ty x y)) h = absurd h
call_from Q N (Some (Select dest test ty x y)) h = absurd h
call_from Q N (Some (Cast dest op from x to)) h = absurd h
call_from Q N (Some (Alloca dest ty align)) h = absurd h
call_from Q N (Some (Load dest ty addr align)) h = absurd h
call_from Q N (Some (Store ty value addr align)) h = absurd h
call_from Q N (Some (Gep dest inbounds ty base indices)) h = absurd h
call_from Q N None h = absurd h

call_of_is_call : (Q : Program) (g : ℕ) (o : Option Instr) → IsCallOf Q g o → IsCall o
call_of_is_call Q g (Some (Call dest ret callee args)) h = tt
call_of_is_call Q g (Some (Binary dest op flags width x y)) h = absurd h
call_of_is_call Q g (Some (Compare dest pred ty x y)) h = absurd h
call_of_is_call Q g (Some (Select dest test ty x y)) h = absurd h
call_of_is_call Q g (Some (Cast dest op from x to)) h = absurd h
call_of_is_call Q g (Some (Alloca dest ty align)) h = absurd h
call_of_is_call Q g (Some (Load dest ty addr align)) h = absurd h
call_of_is_call Q g (Some (Store ty value addr align)) h = absurd h
call_of_is_call Q g (Some (Gep dest inbounds ty base indices)) h = absurd h
call_of_is_call Q g None h = absurd h

-- The number of the function that is called is at least N.
called_from : (Q : Program) (N g : ℕ) (o : Option Instr) → IsCallFrom Q N o → IsCallOf Q g o → N ≤ g
called_from Q N g (Some (Call dest ret callee args)) h e = subst (is_numbered_from N) e h
called_from Q N g (Some (Binary dest op flags width x y)) h e = absurd h
called_from Q N g (Some (Compare dest pred ty x y)) h e = absurd h
called_from Q N g (Some (Select dest test ty x y)) h e = absurd h
called_from Q N g (Some (Cast dest op from x to)) h e = absurd h
called_from Q N g (Some (Alloca dest ty align)) h e = absurd h
called_from Q N g (Some (Load dest ty addr align)) h e = absurd h
called_from Q N g (Some (Store ty value addr align)) h e = absurd h
called_from Q N g (Some (Gep dest inbounds ty base indices)) h e = absurd h
called_from Q N g None h e = absurd h

-- ---- a run before its end

module _ (Q : Program) (I : Input) where
  ended_same : (s : State) (e : Ending) → s.world.ending ≡ Some e → step Q I s ≡ s
  unfolding step on_ending
  ended_same s e h = ap (on_ending Q I s) h

  going_back : (i : ℕ) → (run Q I (suc i)).world.ending ≡ None → (run Q I i).world.ending ≡ None
  unfolding run
  going_back i h = go (run Q I i).world.ending refl
    where
      go : (o : Option Ending) → (run Q I i).world.ending ≡ o → o ≡ None
      go None e = refl
      go (Some x) e = let q = ap (λ (s : State). s.world.ending) (ended_same (run Q I i) x e) in absurd (let r : ⊥ = cc in r)

  going_at : (i d : ℕ) → (run Q I (d + i)).world.ending ≡ None → (run Q I i).world.ending ≡ None
  going_at i zero h = let e : zero + i ≡ i = omega arith in subst (λ k. (run Q I k).world.ending ≡ None) e h
  going_at i (suc d) h = let e : suc d + i ≡ suc (d + i) = omega arith in going_at i d (going_back (d + i) (subst (λ k. (run Q I k).world.ending ≡ None) e h))

  pub going : (i n : ℕ) → i ≤ n → (run Q I n).world.ending ≡ None → (run Q I i).world.ending ≡ None
  going i n le h = let e : (n - i) + i ≡ n = omega arith in going_at i (n - i) (subst (λ k. (run Q I k).world.ending ≡ None) (sym e) h)

-- ---- frames above one that called

abbrev AllFrom : ℕ → List Frame → Type 0
AllFrom N [] = Unit {0}
AllFrom N (f ∷ fs) = (N ≤ f.function) × AllFrom N fs

-- There are frames above the frame that called function g.
record Over (N g : ℕ) (c : Frame) (rest : List Frame) (fs : List Frame) : Type 0 where
  top : Frame
  above : List Frame
  frames : fs ≡ top ∷ (above ++ next c ∷ rest)
  clones : N ≤ g → AllFrom N (top ∷ above)

-- The frame that called is at the place after its call.
record Past (c : Frame) (rest : List Frame) (fs : List Frame) : Type 0 where
  dest : Option (List ℕ)
  value : ℕ
  frames : fs ≡ with_register dest value (next c) ∷ rest

module _ (Q : Program) (N g : ℕ) (c : Frame) (rest : List Frame) where
  over_moves : (top : Frame) (above fs : List Frame) (o : Option Ending) → (N ≤ g → AllFrom N (top ∷ above)) → (N ≤ top.function → (h : ℕ) → IsCallOf Q h (instr_here Q top) → N ≤ h) → Moves Q top (above ++ next c ∷ rest) fs o → o ≡ None → Over N g c rest fs ⊎ Past c rest fs
  over_moves top above fs o a k ends e = absurd (let z : ⊥ = cc in z)
  over_moves top above fs o a k (goes_on f same block place) e = inl (record { top = f; above = above; frames = refl; clones = λ h. (subst (λ y. N ≤ y) (sym same) (a h).0, (a h).1) })
  over_moves top above fs o a k (jumps f same place) e = inl (record { top = f; above = above; frames = refl; clones = λ h. (subst (λ y. N ≤ y) (sym same) (a h).0, (a h).1) })
  over_moves top above fs o a k (enters f called place) e = inl (record { top = f; above = next top ∷ above; frames = refl; clones = λ x. (k (a x).0 f.function called, ((a x).0, (a x).1)) })
  over_moves top [] fs o a k (returns f gs dest v q) e = inr (record { dest = dest; value = v; frames = let x : f ≡ next c = cc in let y : gs ≡ rest = cc in ap₂ (λ h hs. with_register dest v h ∷ hs) x y })
  over_moves top (b ∷ above) fs o a k (returns f gs dest v q) e = inl (record { top = with_register dest v b; above = above; frames = (let x : f ≡ b = cc in let y : gs ≡ above ++ next c ∷ rest = cc in ap₂ (λ h hs. with_register dest v h ∷ hs) x y); clones = λ h. ((a h).1.0, (a h).1.1) })

  length_over : (fs : List Frame) → Over N g c rest fs → suc (length rest) < length fs
  length_over fs r = omega (arith, ap length r.frames, length-append r.above (next c ∷ rest))

-- The top frame is at the start of its function.
record AtStart (fs : List Frame) : Type 0 where
  top : Frame
  others : List Frame
  frames : fs ≡ top ∷ others
  place : top.place ≡ 0

-- After a step there are no more frames, or there is one more, which is at the start of its function.
moves_less : (Q : Program) (f : Frame) (fs gs : List Frame) (o : Option Ending) → Moves Q f fs gs o → o ≡ None → (length gs ≤ suc (length fs)) ⊎ (AtStart gs × (length gs ≡ suc (suc (length fs))))
moves_less Q f fs gs o ends e = absurd (let z : ⊥ = cc in z)
moves_less Q f fs gs o (goes_on g same block place) e = inl (omega arith)
moves_less Q f fs gs o (jumps g same place) e = inl (omega arith)
moves_less Q f fs gs o (enters h called place) e = inr (record { top = h; others = _; frames = refl; place = place }, refl)
moves_less Q f fs gs o (returns h hs dest v q) e = inl (omega (arith, ap length q))

module _ (Q : Program) (I : Input) (full : (i : ℕ) → (f : Frame) × (fs : List Frame) × ((run Q I i).frames ≡ f ∷ fs)) (N : ℕ)
    (clone_calls : (f : Frame) (h : ℕ) → N ≤ f.function → IsCallOf Q h (instr_here Q f) → N ≤ h) where
  run_out : (i : ℕ) (f : Frame) (fs : List Frame) → (run Q I i).world.ending ≡ None → (run Q I i).frames ≡ f ∷ fs → Out Q f fs (run Q I i).lines (run Q I i).counts.steps (run Q I (suc i))
  unfolding run
  run_out i f fs e h = step_out Q I (run Q I i) f fs e h

  steps_is : (i : ℕ) → (run Q I i).world.ending ≡ None → (run Q I i).counts.steps ≡ i
  unfolding run
  steps_is zero e = refl
  steps_is (suc i) e = let b = going_back Q I i e in let r = full i in (run_out i r.0 r.1 b r.2).steps ∙ ap suc (steps_is i b)

  -- The parts that exist before step j were made in earlier steps.
  none_since : (j : ℕ) → (run Q I j).world.ending ≡ None → (x : StorePart) → IsOld (run Q I j).lines x → j ≤ x.step → ⊥
  none_since j e x old le = let lt = (has_history Q I j).made old.part old.there in let s = steps_is j e in let q = old.step in omega arith

  -- The earlier state is at the call, and everything that was stored since then was stored by clones.
  pub record SinceCall (j n : ℕ) (c : Frame) (rest : List Frame) (after : IsAfterCloneCall Q N (run Q I n)) : Type 0 where
    pub call : IsCallFrom Q N (instr_here Q c)
    pub function : c.function ≡ after.frame.function
    pub block : c.block ≡ after.frame.block
    pub place : c.place ≡ after.at
    pub below : (run Q I j).frames ≡ c ∷ after.others
    pub made : SinceClones N j (run Q I n).lines

  record Inside (j g : ℕ) (c : Frame) (rest : List Frame) (i : ℕ) : Type 0 where
    over : Over N g c rest (run Q I i).frames
    made : N ≤ g → SinceClones N j (run Q I i).lines

  record Back (j g : ℕ) (c : Frame) (rest : List Frame) (i : ℕ) : Type 0 where
    after : Past c rest (run Q I i).frames
    made : N ≤ g → SinceClones N j (run Q I i).lines

  inside_step : (j g : ℕ) (c : Frame) (rest : List Frame) (i : ℕ) → Inside j g c rest i → (run Q I (suc i)).world.ending ≡ None → Inside j g c rest (suc i) ⊎ Back j g c rest (suc i)
  inside_step j g c rest i r e =
      let b = going_back Q I i e in
      let o = run_out i r.over.top (r.over.above ++ next c ∷ rest) b r.over.frames in
      ⊎_elim (λ x. inl (record { over = x; made = made o })) (λ x. inr (record { after = x; made = made o }))
      (over_moves Q N g c rest r.over.top r.over.above _ _ r.over.clones (λ big h. clone_calls r.over.top h big) o.moves e)
    where
      made : Out Q r.over.top (r.over.above ++ next c ∷ rest) (run Q I i).lines (run Q I i).counts.steps (run Q I (suc i)) → N ≤ g → SinceClones N j (run Q I (suc i)).lines
      made o big x there le = go (o.parts x there)
        where
          go : IsOld (run Q I i).lines x ⊎ IsNew r.over.top (run Q I i).counts.steps x → N ≤ x.site.function
          go (inl old) = let h = r.made big old.part old.there (let s = old.step in omega arith) in subst (λ y. N ≤ y) (sym (ap (λ s. s.function) old.site)) h
          go (inr new) = subst (λ y. N ≤ y) (sym (ap (λ s. s.function) new.site)) (r.over.clones big).0

  -- ---- as many frames again

  abbrev depth : ℕ → ℕ
  depth i = length (run Q I i).frames

  module _ (low n : ℕ) (ok : (run Q I n).world.ending ≡ None) (never : (i : ℕ) → low < i → i < n → depth i ≢ depth n) where
    -- If an earlier state has fewer frames than state n, and no state between them has as many, state n is at the start
    -- of a function.
    climb : (m i : ℕ) → i + m ≡ n → low ≤ i → depth i < depth n → AtStart (run Q I n).frames
    climb zero i e l d = let q : i ≡ n = omega arith in let same = ap depth q in absurd (omega (arith, d, same))
    climb (suc m) i e l d =
        let r = full i in
        let o = run_out i r.0 r.1 (going Q I i n (omega arith) ok) r.2 in
        let w : depth i ≡ suc (length r.1) = ap length r.2 in
        ⊎_elim (λ x. climb m (suc i) (omega arith) (omega arith) (omega (arith, x))) (λ x. up m (omega arith) x.0 (omega (arith, x.1)) (λ y. climb m (suc i) (omega arith) (omega arith) y))
        (moves_less Q r.0 r.1 _ _ o.moves (going Q I (suc i) n (omega arith) ok))
      where
        up : (m : ℕ) → suc i + m ≡ n → AtStart (run Q I (suc i)).frames → depth (suc i) ≤ depth n → (depth (suc i) < depth n → AtStart (run Q I n).frames) → AtStart (run Q I n).frames
        up zero e s le more = let z : suc i ≡ n = omega arith in subst (λ k. AtStart (run Q I k).frames) z s
        up (suc m) e s le more = more (below (never (suc i) (omega arith) (omega arith)))
          where
            below : (depth (suc i) ≡ depth n → ⊥) → depth (suc i) < depth n
            below ne = omega arith

  -- The last number below n with a depth.
  record HasLast (d n : ℕ) : Type 0 where
    number : ℕ
    before : number < n
    same : depth number ≡ d
    between : (i : ℕ) → number < i → i < n → depth i ≢ d

  one_more : (d n i : ℕ) → depth n ≢ d → (i < n → depth i ≢ d) → i < suc n → depth i ≢ d
  one_more d n i ne old b = go (nat_lt i n) refl
    where
      go : (t : Bool) → nat_lt i n ≡ t → depth i ≢ d
      go true e = old (ltb-true i n e)
      go false e = let same : i ≡ n = grind (arith, nat_tests) in subst (λ k. depth k ≢ d) (sym same) ne

  find_last : (d n : ℕ) → HasLast d n ⊎ ((i : ℕ) → i < n → depth i ≢ d)
  find_last d zero = inr (λ i h. absurd (omega arith))
  find_last d (suc n) = go (nat_eq (depth n) d) refl (find_last d n)
    where
      later : depth n ≢ d → HasLast d n ⊎ ((i : ℕ) → i < n → depth i ≢ d) → HasLast d (suc n) ⊎ ((i : ℕ) → i < suc n → depth i ≢ d)
      later ne (inl r) = inl (record { number = r.number; before = let b = r.before in omega arith; same = r.same; between = λ i a b. one_more d n i ne (r.between i a) b })
      later ne (inr none) = inr (λ i b. one_more d n i ne (none i) b)

      go : (t : Bool) → nat_eq (depth n) d ≡ t → HasLast d n ⊎ ((i : ℕ) → i < n → depth i ≢ d) → HasLast d (suc n) ⊎ ((i : ℕ) → i < suc n → depth i ≢ d)
      go true e r = inl (record { number = n; before = omega arith; same = (let h : depth n ≡ d = grind (arith, nat_tests) in h); between = λ i a b. absurd (omega arith) })
      go false e r = later (λ h. let z : ⊥ = grind (arith, nat_tests) in z) r

  start_depth : depth 0 ≡ 1
  unfolding run
  start_depth = refl

  no_start_past : (n : ℕ) → IsAfterCloneCall Q N (run Q I n) → AtStart (run Q I n).frames → ⊥
  no_start_past n after s =
      let h = after.frames in
      let e = s.frames in
      let same : after.frame ≡ s.top = cc in
      let q = ap (λ (x : Frame). x.place) same in
      let b = after.after in
      let p = s.place in
      omega arith

  start_at : AtStart (run Q I 0).frames
  unfolding run
  start_at = record { top = _; others = []; frames = refl; place = refl }

  -- After a call of a clone there is a last state before with as many frames.
  pub last_before : (n : ℕ) → IsAfterCloneCall Q N (run Q I n) → (j : ℕ) × IsLastBefore Q I j n
  last_before n after = go (find_last (depth n) n)
    where
      deep : (m : ℕ) → m ≡ n → ((i : ℕ) → i < n → depth i ≢ depth n) → ⊥
      deep zero e none = no_start_past n after (subst (λ k. AtStart (run Q I k).frames) e start_at)
      deep (suc m) e none =
          let ne = none 0 (omega arith) in
          let one = start_depth in
          let some : 1 ≤ depth n = omega (arith, ap length after.frames) in
          let low : depth 0 < depth n = below ne one some in
          no_start_past n after (climb 0 n after.going (λ i a b. none i b) n 0 (omega arith) (omega arith) low)
        where
          below : (depth 0 ≡ depth n → ⊥) → depth 0 ≡ 1 → 1 ≤ depth n → depth 0 < depth n
          below ne one some = omega arith

      go : HasLast (depth n) n ⊎ ((i : ℕ) → i < n → depth i ≢ depth n) → (j : ℕ) × IsLastBefore Q I j n
      go (inl r) = (r.number, record { before = r.before; same = r.same; between = r.between })
      go (inr none) = absurd (deep n refl none)

  module _ (j n : ℕ) (last : IsLastBefore Q I j n) (ok : (run Q I n).world.ending ≡ None) (c : Frame) (rest : List Frame) (at_j : (run Q I j).frames ≡ c ∷ rest) where
    depth_n : length (run Q I n).frames ≡ suc (length rest)
    depth_n = sym last.same ∙ ap length at_j

    walk : (g m i : ℕ) → i + m ≡ n → j < i → Inside j g c rest i → Back j g c rest n
    walk g zero i e l r =
        let q : i ≡ n = omega arith in
        let d = length_over Q N g c rest _ (subst (λ k. Inside j g c rest k) q r).over in
        absurd (omega (arith, d, depth_n))
    walk g (suc m) i e l r = ⊎_elim (λ x. walk g m (suc i) (omega arith) (omega arith) x) (λ x. back m (omega arith) x) (inside_step j g c rest i r (going Q I (suc i) n (omega arith) ok))
      where
        back : (m : ℕ) → suc i + m ≡ n → Back j g c rest (suc i) → Back j g c rest n
        back zero e x = let q : suc i ≡ n = omega arith in subst (λ k. Back j g c rest k) q x
        back (suc m) e x = absurd (last.between (suc i) (omega arith) (omega arith) (ap length x.after.frames ∙ sym depth_n))

    module _ (after : IsAfterCloneCall Q N (run Q I n)) where
      same_top : (f : Frame) (fs : List Frame) → (run Q I n).frames ≡ f ∷ fs → after.frame ≡ f
      same_top f fs e = let h = after.frames in cc

      at_next : (f : Frame) → (run Q I (suc j)).frames ≡ f ∷ rest → suc j ≡ n
      at_next f e = let l = last.before in go (n - suc j) (omega arith)
        where
          go : (m : ℕ) → suc j + m ≡ n → suc j ≡ n
          go zero q = omega arith
          go (suc m) q = absurd (last.between (suc j) (omega arith) (omega arith) (ap length e ∙ sym depth_n))

      -- If the frame is one place after c, c is at the call.
      call_here : (f : Frame) → after.frame ≡ f → f.function ≡ c.function → f.block ≡ c.block → f.place ≡ suc c.place → IsCallFrom Q N (instr_here Q c)
      call_here f e function block place =
          let p = ap (λ (x : Frame). x.place) e in
          let b = after.after in
          let a : after.at ≡ c.place = omega arith in
          let u : after.frame.function ≡ c.function = ap (λ (x : Frame). x.function) e ∙ function in
          let v : after.frame.block ≡ c.block = ap (λ (x : Frame). x.block) e ∙ block in
          subst (λ k. IsCallFrom Q N (slice_get (body_at Q c.function c.block) k)) a
          (subst (λ k. IsCallFrom Q N (slice_get (body_at Q c.function k) after.at)) v
          (subst (λ k. IsCallFrom Q N (slice_get (body_at Q k after.frame.block) after.at)) u after.call))

      found : (f : Frame) → (run Q I n).frames ≡ f ∷ rest → f.function ≡ c.function → f.block ≡ c.block → f.place ≡ suc c.place → SinceClones N j (run Q I n).lines → SinceCall j n c rest after
      found f at function block place made =
          let e = same_top f rest at in
          let p = ap (λ (x : Frame). x.place) e in
          let b = after.after in
          let below : after.others ≡ rest = let h = after.frames in cc in
          record {
            call = call_here f e function block place;
            function = sym (ap (λ (x : Frame). x.function) e ∙ function);
            block = sym (ap (λ (x : Frame). x.block) e ∙ block);
            place = omega arith;
            below = at_j ∙ ap (λ (fs : List Frame). c ∷ fs) (sym below);
            made = made;
          }

      no_start : (h : Frame) → after.frame ≡ h → h.place ≡ 0 → ⊥
      no_start h e p = let q = ap (λ (x : Frame). x.place) e in let b = after.after in omega arith

      ok_j : (run Q I j).world.ending ≡ None
      ok_j = let l = last.before in going Q I j n (omega arith) ok

      out_j : Out Q c rest (run Q I j).lines (run Q I j).counts.steps (run Q I (suc j))
      out_j = run_out j c rest ok_j at_j

      -- A call adds no part.
      after_call : IsCall (instr_here Q c) → SinceClones N j (run Q I (suc j)).lines
      after_call is_call x there le = absurd (none_since j ok_j x (out_j.called is_call x there) le)

      first : (fs : List Frame) (o : Option Ending) → (run Q I (suc j)).frames ≡ fs → o ≡ None → Moves Q c rest fs o → SinceCall j n c rest after
      first fs o q e ends = absurd (let z : ⊥ = cc in z)
      first fs o q e (goes_on g function block place) =
          let z = at_next g q in
          let at = subst (λ k. (run Q I k).frames ≡ g ∷ rest) z q in
          let call = call_here g (same_top g rest at) function block place in
          found g at function block place (subst (λ k. SinceClones N j (run Q I k).lines) z (after_call (call_from Q N (instr_here Q c) call)))
      first fs o q e (jumps g function place) = absurd (no_start g (same_top g rest (subst (λ k. (run Q I k).frames ≡ g ∷ rest) (at_next g q) q)) place)
      first fs o q e (enters h called place) =
          let l = last.before in
          let inside : Inside j h.function c rest (suc j) = record {
            over = record { top = h; above = []; frames = q; clones = λ x. (x, tt) };
            made = λ _. after_call (call_of_is_call Q h.function (instr_here Q c) called);
          } in
          let back = walk h.function (n - suc j) (suc j) (omega arith) (omega arith) inside in
          let call = call_here _ (same_top _ rest back.after.frames) refl refl refl in
          found _ back.after.frames refl refl refl (back.made (called_from Q N h.function (instr_here Q c) call called))
      first fs o q e (returns f gs dest v k) =
          let l = last.before in
          let low : depth (suc j) < depth n = omega (arith, ap length q, ap length k, depth_n) in
          absurd (no_start_past n after (climb j n ok last.between (n - suc j) (suc j) (omega arith) (omega arith) low))

      pub since_call : SinceCall j n c rest after
      since_call = let l = last.before in first _ _ refl (going Q I (suc j) n (omega arith) ok) out_j.moves
