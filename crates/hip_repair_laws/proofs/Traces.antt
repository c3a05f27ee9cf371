-- The trace of a repaired program, step by step.
use Rattle.std.proofs.Common.{◌≡◌, ℕ, zero, suc, Bool, true, false, cond, List, [], ◌∷◌, ◌++◌, drop, length, Option, Some, None, is_some, refl, sym, ap, ◌∙◌, subst}
use Rattle.std.specs.List.{drop-map}
use Rattle.hip_tree.specs.declared.block.End.{End}
use Rattle.hip_tree.specs.declared.instr.Instr.{Instr}
use Rattle.hip_tree.specs.declared.program.Program.{Program}
use Rattle.hip_tree.specs.declared.site.Site.{Site}
use Rattle.hip_trace.specs.declared.entry.Entry.{Entry}
use Rattle.hip_run_traces.specs.Laws.TraceLaws.{one-trace}
use Rattle.hip_run_traces.specs.Traces.{IsTrace, entry_list, entry_of_event, header_of, next_entries, trace}
use Rattle.hip_runs.specs.Actions.{deed_of, instr_action}
use Rattle.hip_runs.specs.Places.{code_at, end_at}
use Rattle.hip_runs.specs.State.{Counts, Frame, State, World}
use Rattle.hip_runs.specs.Step.{event, event_at, event_on_ending, has_ended, run, state}
use Rattle.hip_runs.specs.StoredParts.Persistence.{flushes_lines}
use Rattle.hip_runs.specs.Validity.{IsValid}
use Rattle.hip_runs.specs.declared.event.Ending.{Ending}
use Rattle.hip_runs.specs.declared.event.Event.{Event}
use Rattle.hip_runs.specs.declared.event.Event.TheVariants as events
use Rattle.hip_runs.specs.declared.input.Input.{Input}
use Rattle.hip_repairs.proofs.clean.Events.{checks}
use Rattle.hip_repairs.proofs.functions.Blocks.{body_twin}
use Rattle.hip_repairs.proofs.functions.Lookup.{sound_callable}
use Rattle.hip_repairs.proofs.simulation.Facts.{Lines}
use Rattle.hip_repairs.proofs.simulation.Harm.{nothing_held, nothing_kept}
use Rattle.hip_repairs.proofs.simulation.Pairs.{Quiet, Ready, Related, Tied, fence, flush, nothing, quiet, related, tied}
use Rattle.hip_repairs.proofs.simulation.Sim.{Follows, follows}
use Rattle.hip_repairs.specs.Harmless.{inserted_on, is_inserted, marked_at, marked_body, matched, stands_inserted}
use Rattle.hip_repairs.specs.Laws.Callable.{IsCallable}
use Rattle.hip_repairs.specs.Repaired.{Marked, clones_of, instrs_of, repaired, repaired_body, wanted_by}
use Rattle.hip_repairs.specs.declared.plan.Plan.{Plan}
use Rattle.hip_sound.specs.Laws.SoundExact.{sound-passes}
use Rattle.hip_sound.specs.Sound.{IsSound}
use Rattle.hip_repair_laws.specs.Traces.{IsFlushOrFenceEntry, IsWithFlushes, KeepsTraces, more, none, same}

-- ---- lists with flushes and fences put in

itself : (es : List Entry) → IsWithFlushes es es
itself [] = none
itself (e ∷ es) = same e (itself es)

-- The same entries come after both.
end_same : {es es' : List Entry} → IsWithFlushes es es' → (xs : List Entry) → IsWithFlushes (es ++ xs) (es' ++ xs)
end_same none xs = itself xs
end_same (same e h) xs = same e (end_same h xs)
end_same (more e is h) xs = more e is (end_same h xs)

-- Entries of flushes and fences alone.
abbrev AreAdded : List Entry → Type 0
AreAdded [] = Unit {0}
AreAdded (x ∷ xs) = IsFlushOrFenceEntry x × AreAdded xs

all_more : (xs : List Entry) → AreAdded xs → IsWithFlushes [] xs
all_more [] are = none
all_more (x ∷ xs) are = more x are.0 (all_more xs are.1)

end_more : {es es' : List Entry} → IsWithFlushes es es' → (xs : List Entry) → AreAdded xs → IsWithFlushes es (es' ++ xs)
end_more none xs are = all_more xs are
end_more (same e h) xs are = same e (end_more h xs are)
end_more (more e is h) xs are = more e is (end_more h xs are)

-- ---- the event of an inserted instruction

-- What an inserted instruction shows: a flush or a fence, or nothing.
abbrev IsAdded : Event → Type 0
IsAdded events.Quiet = Unit {0}
IsAdded (events.Flush line size) = Unit {0}
IsAdded events.Fence = Unit {0}
IsAdded _ = ⊥

added_entries : (e : Event) → IsAdded e → AreAdded (entry_list (entry_of_event e))
added_entries events.Quiet h = tt {0}
added_entries (events.Flush line size) h = (tt {0}, tt {0})
added_entries events.Fence h = (tt {0}, tt {0})
added_entries (events.Print z) h = absurd h
added_entries (events.Store a v n) h = absurd h
added_entries (events.Persist line size) h = absurd h
added_entries (events.Assert a n) h = absurd h
added_entries (events.End e) h = absurd h

flush_added : (b : Bool) (line size : ℕ) → IsAdded (cond b (events.Flush line size) events.Quiet)
flush_added true line size = tt {0}
flush_added false line size = tt {0}

module _ (P : Program) (plan : Plan) (skip : Site → Bool) (I : Input) where
  abbrev Q : Program
  Q = repaired P plan skip

  abbrev bodies : Bool → ℕ → ℕ → ℕ → List Instr → List Marked
  bodies clone f b k is = repaired_body (clones_of P plan) (wanted_by plan skip) clone f b k is

  abbrev event_by : World → List Frame → Frame → Option End → List Instr → Event
  event_by w fs f end is = event_at I w fs (deed_of Q I w (length fs) f end is)

  not_here : (clone : Bool) (f b k : ℕ) (rest : List Instr) → is_inserted (bodies clone f b k rest) ≡ true → ⊥
  not_here clone f b k [] h = let z : ⊥ = cc in z
  not_here clone f b k (i ∷ is) h = let z : ⊥ = cc in z

  quiet_added : (w : World) (fs : List Frame) (f : Frame) (end : Option End) {pend : List Marked} {fenced : Bool}
      → Quiet pend fenced → (later : List Marked) → (is_inserted later ≡ true → ⊥) → is_inserted (pend ++ later) ≡ true
      → IsAdded (event_by w fs f end (instrs_of (pend ++ later)))
  unfolding instr_action
  quiet_added w fs f end nothing later other h = absurd (other h)
  quiet_added w fs f end fence later other h = tt {0}

  ready_added : (w : World) (fs : List Frame) (f : Frame) (end : Option End) {pend : List Marked}
      {range : Option (ℕ × ℕ)} {fenced : Bool} → Ready P plan skip I w f.registers pend range fenced
      → (later : List Marked) → (is_inserted later ≡ true → ⊥) → is_inserted (pend ++ later) ≡ true
      → IsAdded (event_by w fs f end (instrs_of (pend ++ later)))
  ready_added w fs f end (quiet q) later other h = quiet_added w fs f end q later other h
  ready_added w fs f end (flush i a n no_turn acts q) later other h =
      rw (no_turn, acts (length fs)) (flush_added (flushes_lines I a n) _ _)

  frame_added : (w : World) (fs' : List Frame) {clone : Bool} {pend : List Marked} {range : Option (ℕ × ℕ)}
      {fenced : Bool} {f f' : Frame} → Tied P plan skip clone pend f f'
      → Ready P plan skip I w f.registers pend range fenced
      → is_inserted (drop f'.place (marked_at P plan skip f'.function f'.block)) ≡ true
      → IsAdded (event_by w fs' f' (end_at Q f') (code_at Q f'))
  frame_added w fs' (tied {clone = clone} {f = f} {f' = f'} {b = b} {k = k} {k' = k'} {m = m} {dest = dest} {lvl = lvl} {lvl' = lvl'} {regs = regs} {slots = slots} {slots' = slots'} {pend = pend} rest tw e e' exts) ready h =
      let marked = marked_body P (clones_of P plan) (wanted_by plan skip) clone f b in
      let new : Frame = record { function = f'; block = b; place = k'; registers = regs; mark = m; slots = slots'; dest = dest; level = lvl' } in
      let here : is_inserted (pend ++ bodies clone f b k rest) ≡ true =
      ap is_inserted (sym e') ∙ ap (λ ms. is_inserted (drop k' ms)) (sym (tw.marked b)) ∙ h in
      let code : code_at Q new ≡ instrs_of (pend ++ bodies clone f b k rest) =
      ap (drop k') (body_twin P plan skip clone f f' tw b) ∙ drop-map (λ (x : Marked). x.0) k' marked ∙ ap instrs_of e' in
      subst (λ (is : List Instr). IsAdded (event_by w fs' new (end_at Q new) is)) (sym code)
      (ready_added w fs' new (end_at Q new) ready (bodies clone f b k rest) (not_here clone f b k rest) here)

  event_going : (w : World) (f : Frame) (fs : List Frame) (ls : Lines) (c : Counts) → w.ending ≡ None
      → event Q I (state w (f ∷ fs) ls c) ≡ event_by w fs f (end_at Q f) (code_at Q f)
  unfolding event
  event_going w f fs ls c going = ap (event_on_ending Q I (state w (f ∷ fs) ls c)) going

  pair_added : (size : ℕ) (s s' : State) → Related P plan skip I nothing_held size s s' → s'.world.ending ≡ None
      → stands_inserted P plan skip s' ≡ true → IsAdded (event Q I s')
  pair_added size s s' (related {w = w} {f = f} {f' = f'} {fs = fs} {fs' = fs'} {ls = ls} {ls' = ls'} {c = c} {c' = c'} t r below a held le) going h =
      subst IsAdded (sym (event_going w f' fs' ls' c' going))
      (frame_added w fs' t r (sym (ap (λ (o : Option Ending). inserted_on P plan skip o (f' ∷ fs')) going) ∙ h))

  -- ---- the traces

  module _ (good : IsCallable P) (valid : IsValid P I) where
    pair : (n : ℕ) → Follows P plan skip I good valid nothing_held (nothing_kept P plan skip I) n
    pair n = follows P plan skip I good valid nothing_held (nothing_kept P plan skip I) n

    same_world : (size : ℕ) (s s' : State) → Related P plan skip I nothing_held size s s' → s'.world ≡ s.world
    same_world size s s' (related t r b a h le) = refl

    worlds : (n : ℕ) → (run Q I n).world ≡ (run P I (matched P plan skip I n)).world
    worlds n = same_world (pair n).size _ _ (pair n).pair

    -- What stands at an inserted instruction has not ended.
    going_on : (s : State) → stands_inserted P plan skip s ≡ true → s.world.ending ≡ None
    going_on s h = by s.world.ending refl h
      where
        by : (o : Option Ending) → s.world.ending ≡ o → inserted_on P plan skip o s.frames ≡ true → s.world.ending ≡ None
        by None e q = e
        by (Some x) e q = absurd (let z : ⊥ = cc in z)

    inserted_entries : (n : ℕ) → stands_inserted P plan skip (run Q I n) ≡ true → AreAdded (next_entries Q I (run Q I n))
    inserted_entries n h =
        let going = going_on (run Q I n) h in
        let not_ended : has_ended (run Q I n) ≡ false = ap is_some going in
        subst (λ (b : Bool). AreAdded (cond b [] (entry_list (entry_of_event (event Q I (run Q I n)))))) (sym not_ended)
        (added_entries (event Q I (run Q I n)) (pair_added (pair n).size _ _ (pair n).pair going h))

    same_entries : (n : ℕ) → stands_inserted P plan skip (run Q I n) ≡ false
        → next_entries Q I (run Q I n) ≡ next_entries P I (run P I (matched P plan skip I n))
    same_entries n h = by (run Q I n).world.ending refl
      where
        ending_there : (run P I (matched P plan skip I n)).world.ending ≡ (run Q I n).world.ending
        ending_there = ap (λ (w : World). w.ending) (sym (worlds n))

        by : (o : Option Ending) → (run Q I n).world.ending ≡ o
            → next_entries Q I (run Q I n) ≡ next_entries P I (run P I (matched P plan skip I n))
        by (Some x) e =
            let here : has_ended (run Q I n) ≡ true = ap is_some e in
            let there : has_ended (run P I (matched P plan skip I n)) ≡ true = ap is_some (ending_there ∙ e) in
            ap (λ (b : Bool). cond b [] (entry_list (entry_of_event (event Q I (run Q I n))))) here
            ∙ sym (ap (λ (b : Bool). cond b []
            (entry_list (entry_of_event (event P I (run P I (matched P plan skip I n)))))) there)
        by None e =
            let here : has_ended (run Q I n) ≡ false = ap is_some e in
            let there : has_ended (run P I (matched P plan skip I n)) ≡ false = ap is_some (ending_there ∙ e) in
            let events_are = (checks P plan skip I good nothing_held (pair n).size _ _ (pair n).pair e).same h in
            ap (λ (b : Bool). cond b [] (entry_list (entry_of_event (event Q I (run Q I n))))) here
            ∙ ap (λ (x : Event). entry_list (entry_of_event x)) events_are
            ∙ sym (ap (λ (b : Bool). cond b []
            (entry_list (entry_of_event (event P I (run P I (matched P plan skip I n)))))) there)

    after_step : (n : ℕ) (inserted : Bool) → stands_inserted P plan skip (run Q I n) ≡ inserted
        → IsWithFlushes (trace P I (matched P plan skip I n)) (trace Q I n)
        → IsWithFlushes (trace P I (cond inserted (matched P plan skip I n) (suc (matched P plan skip I n)))) (trace Q I (suc n))
    unfolding trace
    after_step n true h before = end_more before (next_entries Q I (run Q I n)) (inserted_entries n h)
    after_step n false h before =
        subst (λ (xs : List Entry). IsWithFlushes (trace P I (suc (matched P plan skip I n))) (trace Q I n ++ xs))
        (sym (same_entries n h)) (end_same before (next_entries P I (run P I (matched P plan skip I n))))

    front : (n : ℕ) → IsWithFlushes (trace P I (matched P plan skip I n)) (trace Q I n)
    unfolding trace matched
    front zero = itself (header_of I)
    front (suc n) =
        subst (λ (b : Bool). IsWithFlushes (trace P I (cond b (matched P plan skip I n) (suc (matched P plan skip I n)))) (trace Q I (suc n)))
        refl (after_step n (stands_inserted P plan skip (run Q I n)) refl (front n))

    pub with_flushes : (es es' : List Entry) → IsTrace P I es → IsTrace Q I es' → IsWithFlushes es es'
    with_flushes es es' h h' =
        let m = matched P plan skip I h'.steps in
        let over : has_ended (run P I m) ≡ true = ap (λ (w : World). is_some w.ending) (sym (worlds h'.steps)) ∙ h'.ended in
        let there : IsTrace P I (trace P I m) = record { steps = m; ended = over; are = refl } in
        subst (λ (xs : List Entry). IsWithFlushes xs es') (one-trace P I (trace P I m) es there h)
        (subst (λ (xs : List Entry). IsWithFlushes (trace P I m) xs) (sym h'.are) (front h'.steps))

pub keeps_traces : (P : Program) (plan : Plan) (skip : Site → Bool) → IsSound P → KeepsTraces P plan skip
keeps_traces P plan skip sound I valid es es' h h' =
    with_flushes P plan skip I (sound_callable P (sound-passes P sound)) valid es es' h h'
