-- A repair adds few steps to a run.
use Rattle.std.proofs.Common.{◌≡◌, ◌⊎◌, inl, inr, ℕ, zero, suc, ◌+◌, ◌*◌, ◌≤◌, Bool, true, false, cond, not, ◌&&◌, ◌||◌, List, [], ◌∷◌, ◌++◌, drop, length, Option, Some, None, refl, sym, ap, ◌∙◌, arith, length-append}
use Rattle.hip_types.specs.Laws.DistinctLaws.{either}
use Rattle.hip_tree.specs.Sites.{has_site, instr_of}
use Rattle.hip_tree.specs.declared.instr.Instr.{Instr}
use Rattle.hip_tree.specs.declared.instr.Instr.TheVariants.{Binary, Compare, Select, Cast, Alloca, Load, Store, Gep, Call}
use Rattle.hip_tree.specs.declared.program.Program.{Program}
use Rattle.hip_tree.specs.declared.site.Site.{Site}
use Rattle.hip_sound.specs.Laws.SoundExact.{sound-passes}
use Rattle.hip_sound.specs.Sound.{IsSound}
use Rattle.hip_runs.specs.Actions.{Action, Allocates, Asserts, Assigns, Calls, Deed, Fences, Flushes, Jumps, Persists, Prints, Reads, Returns, Stores, Traps}
use Rattle.hip_runs.specs.Laws.HistoryLaws.{instr_at_place}
use Rattle.hip_runs.specs.Laws.Members.{get_drop}
use Rattle.hip_runs.specs.Places.{body_at}
use Rattle.hip_runs.specs.Sites.{is_flush_call, is_store}
use Rattle.hip_runs.specs.State.{Counts, Frame, Registers, State, World, site_of}
use Rattle.hip_runs.specs.Step.{carry_out, counted, deed_at, event_at, is_cut, leave, on_ending, on_frames, perform, run, step, stop, with_turn}
use Rattle.hip_runs.specs.Validity.{IsValid}
use Rattle.hip_runs.specs.declared.event.Ending.{Ending}
use Rattle.hip_runs.specs.declared.event.Ending.TheVariants.{Cut}
use Rattle.hip_runs.specs.declared.input.Input.{Input}
use Rattle.hip_repairs.proofs.functions.Lookup.{sound_callable}
use Rattle.hip_repairs.proofs.simulation.Facts.{Lines}
use Rattle.hip_repairs.proofs.simulation.Harm.{nothing_held, nothing_kept}
use Rattle.hip_repairs.proofs.simulation.Pairs.{Ready, Related, Tied, fence, flush, nothing, quiet, related, tied}
use Rattle.hip_repairs.proofs.simulation.Sim.{Follows, follows}
use Rattle.hip_repairs.specs.Harmless.{inserted_on, is_inserted, marked_at, marked_body, matched, stands_inserted}
use Rattle.hip_repairs.specs.Laws.Callable.{IsCallable}
use Rattle.hip_repairs.specs.Repaired.{Marked, Wanted, added_fence, added_flush, clones_of, inserted_after, repaired, repaired_body, wanted_by}
use Rattle.hip_repairs.specs.Suits.{IsSuiting}
use Rattle.hip_repairs.specs.declared.plan.Plan.{Plan}
use Rattle.hip_repair_laws.specs.Steps.{AddsFewSteps, added_at_most, is_at}

-- ---- inserted instructions that come next

-- How many inserted instructions these begin with.
abbrev lead : List Marked → ℕ
lead [] = 0
lead (m ∷ ms) = cond m.1 (suc (lead ms)) 0

lead_inserted : (ms : List Marked) → is_inserted ms ≡ true → lead ms ≡ suc (lead (drop 1 ms))
lead_inserted [] h = absurd (let z : ⊥ = cc in z)
lead_inserted (m ∷ ms) h = ap (λ (b : Bool). cond b (suc (lead ms)) 0) h

lead_none : (ms : List Marked) → is_inserted ms ≡ false → lead ms ≡ 0
lead_none [] h = refl
lead_none (m ∷ ms) h = ap (λ (b : Bool). cond b (suc (lead ms)) 0) h

lead_front : (xs ys : List Marked) → is_inserted ys ≡ false → lead (xs ++ ys) ≤ length xs
lead_front [] ys h = let none = lead_none ys h in omega (arith, none)
lead_front (x ∷ xs) ys h = go x.1 (lead_front xs ys h)
  where
    go : (b : Bool) → lead (xs ++ ys) ≤ length xs → cond b (suc (lead (xs ++ ys))) 0 ≤ suc (length xs)
    go true rest = omega (arith, rest)
    go false rest = omega arith

drop_more : {A : Type 0} (k : ℕ) (xs : List A) → drop 1 (drop k xs) ≡ drop (suc k) xs
drop_more zero xs = refl
drop_more (suc k) [] = refl
drop_more (suc k) (x ∷ xs) = drop_more k xs

-- How many inserted instructions come at this place of a body, before any other. A body begins with none.
abbrev wait : List Marked → ℕ → ℕ
wait ms zero = 0
wait ms (suc k) = lead (drop (suc k) ms)

-- ---- frames

-- The inserted instructions that come next in each frame, by the marked body of each block.
abbrev waits : (ℕ → ℕ → List Marked) → List Frame → ℕ
waits bodies [] = 0
waits bodies (f ∷ fs) = wait (bodies f.function f.block) f.place + waits bodies fs

-- The same once the top frame is past the instruction at its place.
abbrev waits_after : (ℕ → ℕ → List Marked) → List Frame → ℕ
waits_after bodies [] = 0
waits_after bodies (f ∷ fs) = wait (bodies f.function f.block) (suc f.place) + waits bodies fs

module _ (bodies : ℕ → ℕ → List Marked) where
  never_ends : {e : Ending} → Some e ≡ None → ⊥
  never_ends h = cc

  leave_waits : (v : ℕ) (w : World) (f : Frame) (fs : List Frame) (ls : Lines) (after : Counts)
      → (leave v w f fs ls after).world.ending ≡ None
      → waits bodies (leave v w f fs ls after).frames ≤ waits_after bodies (f ∷ fs)
  unfolding leave
  leave_waits v w f [] ls after h = absurd (never_ends h)
  leave_waits v w f (g ∷ fs) ls after h = omega arith

  perform_waits : (I : Input) (w : World) (f : Frame) (fs : List Frame) (ls : Lines) (before after : Counts) (x : Action)
      → (perform I w f fs ls before after x).world.ending ≡ None
      → waits bodies (perform I w f fs ls before after x).frames ≤ waits_after bodies (f ∷ fs)
  unfolding perform
  perform_waits I w f fs ls before after (Traps kind) h = absurd (never_ends h)
  perform_waits I w f fs ls before after (Assigns to v) h = omega arith
  perform_waits I w f fs ls before after (Allocates to a n) h = omega arith
  perform_waits I w f fs ls before after (Stores a bytes) h = omega arith
  perform_waits I w f fs ls before after (Flushes a n) h = omega arith
  perform_waits I w f fs ls before after (Persists a n) h = omega arith
  perform_waits I w f fs ls before after Fences h = omega arith
  perform_waits I w f fs ls before after (Asserts a n) h = omega arith
  perform_waits I w f fs ls before after (Prints z) h = omega arith
  perform_waits I w f fs ls before after (Reads to z rest) h = omega arith
  perform_waits I w f fs ls before after (Calls g rs to) h = omega arith
  perform_waits I w f fs ls before after (Jumps b rs) h = omega arith
  perform_waits I w f fs ls before after (Returns v) h = leave_waits v w f fs ls after h

  carry_waits : (I : Input) (w : World) (f : Frame) (fs : List Frame) (ls : Lines) (before after : Counts) (d : Deed)
      → (carry_out I w f fs ls before after d).world.ending ≡ None
      → waits bodies (carry_out I w f fs ls before after d).frames ≤ waits_after bodies (f ∷ fs)
  unfolding carry_out
  carry_waits I w f fs ls before after d = go (is_cut I w d)
    where
      go : (b : Bool)
          → (cond b (stop Cut w (f ∷ fs) ls after) (perform I (cond d.turn (with_turn w) w) f fs ls before after d.action)).world.ending ≡ None
          → waits bodies (cond b (stop Cut w (f ∷ fs) ls after) (perform I (cond d.turn (with_turn w) w) f fs ls before after d.action)).frames
          ≤ waits_after bodies (f ∷ fs)
      go true h = absurd (never_ends h)
      go false h = perform_waits I (cond d.turn (with_turn w) w) f fs ls before after d.action h

  -- After a step that does not end the run, no more wait than once the top frame is past its instruction.
  step_waits : (Q : Program) (I : Input) (s : State) → (step Q I s).world.ending ≡ None
      → waits bodies (step Q I s).frames ≤ waits_after bodies s.frames
  unfolding step on_ending on_frames
  step_waits Q I s = go s.world.ending refl
    where
      on_them : (fs : List Frame) → (on_frames Q I s.world s.lines s.counts fs).world.ending ≡ None
          → waits bodies (on_frames Q I s.world s.lines s.counts fs).frames ≤ waits_after bodies fs
      on_them [] h = omega arith
      on_them (f ∷ fs) h =
          carry_waits I s.world f fs s.lines s.counts (counted (event_at I s.world fs (deed_at Q I s.world f fs)) s.counts)
          (deed_at Q I s.world f fs) h

      go : (o : Option Ending) → s.world.ending ≡ o → (on_ending Q I s o).world.ending ≡ None
          → waits bodies (on_ending Q I s o).frames ≤ waits_after bodies s.frames
      go (Some e) is h = absurd (never_ends (sym is ∙ h))
      go None is h = on_them s.frames h

-- A run that has ended stays as it is.
stays_ended : (Q : Program) (I : Input) (s : State) (e : Ending) → s.world.ending ≡ Some e → step Q I s ≡ s
unfolding step on_ending
stays_ended Q I s e is = ap (on_ending Q I s) is

-- What is still to be done of the inserted instructions; nothing once the run has ended.
abbrev owed : (ℕ → ℕ → List Marked) → Option Ending → List Frame → ℕ
owed bodies (Some e) fs = 0
owed bodies None fs = waits bodies fs

owed_within : (bodies : ℕ → ℕ → List Marked) (o : Option Ending) (fs : List Frame) (n : ℕ)
    → (o ≡ None → waits bodies fs ≤ n) → owed bodies o fs ≤ n
owed_within bodies (Some e) fs n h = omega arith
owed_within bodies None fs n h = h refl

-- ---- the program's instructions

module _ (P : Program) (plan : Plan) (suits : IsSuiting P plan) where
  -- At most so many are inserted after the instruction at a site.
  abbrev most_after : Site → ℕ
  most_after s =
      2 * cond (is_store (instr_of P s)) 1 0
      + (cond (is_flush_call (instr_of P s)) 1 0 + cond (has_site plan.hoist s) 1 0)

  -- 1 if it is so, else 0.
  abbrev one_if : Bool → ℕ
  one_if b = cond b 1 0

  both_tests : (b : Bool) → b ≡ true → b ≡ false → ⊥
  both_tests b h g = let z : true ≡ false = sym h ∙ g in let no_more : ⊥ = cc in no_more

  -- After a flush a fence is planned, if the instruction is no store.
  is_flush : (s : Site) → is_store (instr_of P s) ≡ false → has_site plan.fence_after s ≡ true
      → is_flush_call (instr_of P s) ≡ true
  is_flush s other fenced = go (either (is_flush_call (instr_of P s)) (has_site plan.flush_after s) (suits.fences s fenced))
    where
      go : (is_flush_call (instr_of P s) ≡ true) ⊎ (has_site plan.flush_after s ≡ true)
          → is_flush_call (instr_of P s) ≡ true
      go (inl h) = h
      go (inr h) = absurd (both_tests (is_store (instr_of P s)) (suits.flushes s h) other)

  fence_within : (s : Site) → is_store (instr_of P s) ≡ false
      → length (added_fence (has_site plan.fence_after s || has_site plan.hoist s)) ≤ most_after s
  fence_within s other = go (has_site plan.fence_after s) refl (has_site plan.hoist s) refl
    where
      go : (a : Bool) → has_site plan.fence_after s ≡ a → (h : Bool) → has_site plan.hoist s ≡ h
          → length (added_fence (a || h)) ≤ most_after s
      go true fenced h is =
          let one : one_if (is_flush_call (instr_of P s)) ≡ 1 = ap one_if (is_flush s other fenced) in
          omega (arith, one)
      go false fenced true is =
          let one : one_if (has_site plan.hoist s) ≡ 1 = ap one_if is in
          omega (arith, one)
      go false fenced false is = omega arith

  store_within : (s : Site) → is_store (instr_of P s) ≡ true → (xs ys : List Marked) → length xs ≤ 1 → length ys ≤ 1
      → length (xs ++ ys) ≤ most_after s
  store_within s is xs ys f g =
      let two : one_if (is_store (instr_of P s)) ≡ 1 = ap one_if is in
      omega (arith, f, g, two, length-append xs ys)

  one_flush : (i : Instr) (b : Bool) → length (added_flush i b) ≤ 1
  one_flush (Store ty value addr align) true = omega arith
  one_flush (Store ty value addr align) false = omega arith
  one_flush (Binary to op flags width x y) b = omega arith
  one_flush (Compare to pred ty x y) b = omega arith
  one_flush (Select to test ty x y) b = omega arith
  one_flush (Cast to op from x ty) b = omega arith
  one_flush (Alloca to ty align) b = omega arith
  one_flush (Load to ty addr align) b = omega arith
  one_flush (Gep to inbounds ty pointer indices) b = omega arith
  one_flush (Call to ret callee args) b = omega arith

  one_fence : (b : Bool) → length (added_fence b) ≤ 1
  one_fence true = omega arith
  one_fence false = omega arith

  module _ (skip : Site → Bool) where
    abbrev w : Wanted
    w = wanted_by plan skip

    inserted_within : (clone : Bool) (s : Site) (i : Instr) → instr_of P s ≡ Some i
        → length (inserted_after w clone s i) ≤ most_after s
    inserted_within clone s (Store ty value addr align) is =
        let flushed : Bool = w.flush_after s || (clone && not (w.skip s)) in
        let fenced : Bool = w.fence_after s || w.hoist s in
        store_within s (ap is_store is) (added_flush (Store ty value addr align) flushed) (added_fence fenced)
        (one_flush (Store ty value addr align) flushed) (one_fence fenced)
    inserted_within clone s (Binary to op flags width x y) is = fence_within s (ap is_store is)
    inserted_within clone s (Compare to pred ty x y) is = fence_within s (ap is_store is)
    inserted_within clone s (Select to test ty x y) is = fence_within s (ap is_store is)
    inserted_within clone s (Cast to op from x ty) is = fence_within s (ap is_store is)
    inserted_within clone s (Alloca to ty align) is = fence_within s (ap is_store is)
    inserted_within clone s (Load to ty addr align) is = fence_within s (ap is_store is)
    inserted_within clone s (Gep to inbounds ty pointer indices) is = fence_within s (ap is_store is)
    inserted_within clone s (Call to ret callee args) is = fence_within s (ap is_store is)

    abbrev rest_of : Bool → ℕ → ℕ → ℕ → List Instr → List Marked
    rest_of clone f b k is = repaired_body (clones_of P plan) w clone f b k is

    begins_plain : (clone : Bool) (f b k : ℕ) (is : List Instr) → is_inserted (rest_of clone f b k is) ≡ false
    begins_plain clone f b k [] = refl
    begins_plain clone f b k (i ∷ is) = refl

    body_within : (clone : Bool) (f b k : ℕ) (rest : List Instr) → drop k (body_at P f b) ≡ rest
        → lead (drop 1 (rest_of clone f b k rest)) ≤ most_after (record { function = f; block = b; index = k })
    body_within clone f b k [] e = omega arith
    body_within clone f b k (i ∷ is) e =
        let s : Site = record { function = f; block = b; index = k } in
        let at : instr_of P s ≡ Some i = instr_at_place P f b k ∙ get_drop (body_at P f b) k i is e in
        let front = lead_front (inserted_after w clone s i) (rest_of clone f b (suc k) is) (begins_plain clone f b (suc k) is) in
        let few = inserted_within clone s i at in
        omega (arith, front, few)

    abbrev marks : ℕ → ℕ → List Marked
    marks f b = marked_at P plan skip f b

    abbrev most_at : Frame → ℕ
    most_at f = most_after (site_of f)

    -- At no inserted instruction, none comes next.
    none_pending : {I : Input} {v : World} {regs : Registers} {pend more ms : List Marked} {range : Option (ℕ × ℕ)}
        {fenced : Bool} → Ready P plan skip I v regs pend range fenced → ms ≡ pend ++ more → is_inserted ms ≡ false
        → ms ≡ more
    none_pending (quiet nothing) e h = e
    none_pending (quiet fence) e h = absurd (both_tests true refl (sym (ap is_inserted e) ∙ h))
    none_pending (flush i a n t acts q) e h = absurd (both_tests true refl (sym (ap is_inserted e) ∙ h))

    frame_within : {I : Input} {v : World} {clone : Bool} {pend : List Marked} {range : Option (ℕ × ℕ)} {fenced : Bool}
        {f f' : Frame} → Tied P plan skip clone pend f f' → Ready P plan skip I v f.registers pend range fenced
        → is_inserted (drop f'.place (marks f'.function f'.block)) ≡ false
        → wait (marks f'.function f'.block) (suc f'.place) ≤ most_at f
    frame_within (tied {clone = clone} {f = f} {f' = f'} {b = b} {k = k} {k' = k'} rest tw e e' same) ready h =
        let marked : List Marked = marked_body P (clones_of P plan) w clone f b in
        let here : is_inserted (drop k' marked) ≡ false = ap (λ ms. is_inserted (drop k' ms)) (sym (tw.marked b)) ∙ h in
        let left : drop k' marked ≡ rest_of clone f b k rest = none_pending ready e' here in
        let is : lead (drop (suc k') (marks f' b)) ≡ lead (drop 1 (rest_of clone f b k rest)) =
        ap (λ ms. lead (drop (suc k') ms)) (tw.marked b) ∙ ap lead (sym (drop_more k' marked))
        ∙ ap (λ ms. lead (drop 1 ms)) left in
        let few = body_within clone f b k rest e in
        omega (arith, is, few)

    frame_inserted : {clone : Bool} {pend : List Marked} {f f' : Frame} → Tied P plan skip clone pend f f'
        → is_inserted (drop f'.place (marks f'.function f'.block)) ≡ true
        → wait (marks f'.function f'.block) f'.place ≡ suc (wait (marks f'.function f'.block) (suc f'.place))
    frame_inserted (tied {clone = clone} {f = f} {f' = f'} {b = b} {k = k} {k' = k'} rest tw e e' same) h = by_place k' h
      where
        by_place : (j : ℕ) → is_inserted (drop j (marks f' b)) ≡ true → wait (marks f' b) j ≡ suc (wait (marks f' b) (suc j))
        by_place zero g =
            absurd (both_tests (is_inserted (marks f' b)) g
            (ap is_inserted (tw.marked b) ∙ begins_plain clone f b 0 (body_at P f b)))
        by_place (suc j) g =
            lead_inserted (drop (suc j) (marks f' b)) g ∙ ap (λ ms. suc (lead ms)) (drop_more (suc j) (marks f' b))

    -- ---- corresponding states

    abbrev most_on : Option Ending → List Frame → ℕ
    most_on o fs =
        2 * cond (is_at (λ s. is_store (instr_of P s)) o fs) 1 0
        + (cond (is_at (λ s. is_flush_call (instr_of P s)) o fs) 1 0 + cond (is_at (has_site plan.hoist) o fs) 1 0)

    plain_pair : {I : Input} (size : ℕ) (s s' : State) → Related P plan skip I nothing_held size s s'
        → s'.world.ending ≡ None → stands_inserted P plan skip s' ≡ false
        → waits_after marks s'.frames ≤ most_on s.world.ending s.frames + waits marks s'.frames
    plain_pair size s s' (related {w = v} {f = f} {f' = f'} {fs = fs} {fs' = fs'} t r below a held le) going h =
        let here : is_inserted (drop f'.place (marks f'.function f'.block)) ≡ false =
        sym (ap (λ (o : Option Ending). inserted_on P plan skip o (f' ∷ fs')) going) ∙ h in
        let few = frame_within t r here in
        let most : most_on v.ending (f ∷ fs) ≡ most_at f = ap (λ (o : Option Ending). most_on o (f ∷ fs)) going in
        omega (arith, few, most)

    inserted_pair : {I : Input} (size : ℕ) (s s' : State) → Related P plan skip I nothing_held size s s'
        → s'.world.ending ≡ None → stands_inserted P plan skip s' ≡ true
        → suc (waits_after marks s'.frames) ≤ waits marks s'.frames
    inserted_pair size s s' (related {f = f} {f' = f'} {fs = fs} {fs' = fs'} t r below a held le) going h =
        let here : is_inserted (drop f'.place (marks f'.function f'.block)) ≡ true =
        sym (ap (λ (o : Option Ending). inserted_on P plan skip o (f' ∷ fs')) going) ∙ h in
        let one = frame_inserted t here in
        omega (arith, one)

    -- ---- the runs

    module _ (I : Input) (good : IsCallable P) (valid : IsValid P I) where
      abbrev Q : Program
      Q = repaired P plan skip

      pair : (n : ℕ) → Follows P plan skip I good valid nothing_held (nothing_kept P plan skip I) n
      pair n = follows P plan skip I good valid nothing_held (nothing_kept P plan skip I) n

      abbrev owes : State → ℕ
      owes s = owed marks s.world.ending s.frames

      abbrev most : ℕ → ℕ
      most n = n + added_at_most P plan I n

      -- What stands at an inserted instruction has not ended.
      going_on : (s : State) → stands_inserted P plan skip s ≡ true → s.world.ending ≡ None
      going_on s h = by s.world.ending refl h
        where
          by : (o : Option Ending) → s.world.ending ≡ o → inserted_on P plan skip o s.frames ≡ true → s.world.ending ≡ None
          by None e q = e
          by (Some x) e q = absurd (let z : ⊥ = cc in z)

      owes_after : (s : State) → owes (step Q I s) ≤ waits_after marks s.frames
      owes_after s =
          owed_within marks (step Q I s).world.ending (step Q I s).frames (waits_after marks s.frames)
          (step_waits marks Q I s)

      owes_going : (s : State) → s.world.ending ≡ None → owes s ≡ waits marks s.frames
      owes_going s going = ap (λ (o : Option Ending). owed marks o s.frames) going

      inserted_step : (n : ℕ) (s s' : State) (size m : ℕ) → Related P plan skip I nothing_held size s s'
          → stands_inserted P plan skip s' ≡ true → n + owes s' ≤ most m → suc n + owes (step Q I s') ≤ most m
      inserted_step n s s' size m r h before =
          let going = going_on s' h in
          omega (arith, before, owes_after s', owes_going s' going, inserted_pair size s s' r going h)

      plain_step : (n : ℕ) (s' : State) (size m : ℕ) → Related P plan skip I nothing_held size (run P I m) s'
          → stands_inserted P plan skip s' ≡ false → n + owes s' ≤ most m → suc n + owes (step Q I s') ≤ most (suc m)
      plain_step n s' size m r h before = by s'.world.ending refl
        where
          by : (o : Option Ending) → s'.world.ending ≡ o → suc n + owes (step Q I s') ≤ most (suc m)
          by (Some e) is =
              let none : owes (step Q I s') ≡ 0 = ap owes (stays_ended Q I s' e is) ∙ ap (λ (o : Option Ending). owed marks o s'.frames) is in
              omega (arith, before, none)
          by None is =
              omega (arith, before, owes_after s', owes_going s' is, plain_pair size (run P I m) s' r is h)

      after_step : (n : ℕ) (b : Bool) → stands_inserted P plan skip (run Q I n) ≡ b
          → n + owes (run Q I n) ≤ most (matched P plan skip I n)
          → suc n + owes (step Q I (run Q I n)) ≤ most (cond b (matched P plan skip I n) (suc (matched P plan skip I n)))
      after_step n true h before =
          inserted_step n (run P I (matched P plan skip I n)) (run Q I n) (pair n).size (matched P plan skip I n) (pair n).pair h before
      after_step n false h before = plain_step n (run Q I n) (pair n).size (matched P plan skip I n) (pair n).pair h before

      few_steps : (n : ℕ) → n + owes (run Q I n) ≤ most (matched P plan skip I n)
      unfolding run matched
      few_steps zero = omega arith
      few_steps (suc n) = after_step n (stands_inserted P plan skip (run Q I n)) refl (few_steps n)

      within : (n : ℕ) → n ≤ matched P plan skip I n + added_at_most P plan I (matched P plan skip I n)
      within n = let most = few_steps n in omega (arith, most)

pub adds_few : (P : Program) (plan : Plan) (skip : Site → Bool) → IsSound P → IsSuiting P plan → AddsFewSteps P plan skip
adds_few P plan skip sound suits I valid n =
    within P plan suits skip I (sound_callable P (sound-passes P sound)) valid n
