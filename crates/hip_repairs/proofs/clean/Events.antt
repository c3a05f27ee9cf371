-- A step of both programs has the same event, and a step of an inserted instruction checks nothing.
use Rattle.std.proofs.Common.{◌≡◌, ℕ, Bool, true, false, cond, not, ◌||◌, nat_lt, List, [], ◌∷◌, ◌++◌, length, drop, Option, Some, None, slice_get, refl, sym, ap, ◌∙◌, subst}
use Rattle.std.specs.List.{drop-map}
use Rattle.hip_types.specs.declared.number.Scalar.{Scalar}
use Rattle.hip_tree.specs.Sites.{has_site}
use Rattle.hip_tree.specs.declared.block.End.{End}
use Rattle.hip_tree.specs.declared.instr.Arg.{Arg}
use Rattle.hip_tree.specs.declared.instr.Instr.{Instr}
use Rattle.hip_tree.specs.declared.instr.Instr.TheVariants.{Binary, Compare, Select, Cast, Alloca, Load, Store, Gep, Call}
use Rattle.hip_tree.specs.declared.program.Function.{Function}
use Rattle.hip_tree.specs.declared.program.Program.{Program}
use Rattle.hip_tree.specs.declared.site.Site.{Site}
use Rattle.hip_externs.specs.Externs.{call_of}
use Rattle.hip_sound.specs.NumberedNames.{function_number}
use Rattle.hip_externs.specs.declared.call.ExternCall.{ExternCall}
use Rattle.hip_runs.specs.declared.event.Event.{Event}
use Rattle.hip_runs.specs.declared.event.Event.TheVariants as events
use Rattle.hip_runs.specs.declared.event.Ending.{Ending}
use Rattle.hip_runs.specs.declared.event.Ending.TheVariants.{Cut}
use Rattle.hip_runs.specs.declared.event.TrapKind.TheVariants as traps
use Rattle.hip_runs.specs.declared.input.Input.{Input}
use Rattle.hip_runs.specs.Actions.{Action, Traps, Assigns, Allocates, Stores, Flushes, Persists, Fences, Asserts, Prints, Reads, Calls, Jumps, Returns, Deed, accessed, allocated, entered, call_action, extern_action, instr_action, end_action, is_turn, is_flush_or_fence, deed_of}
use Rattle.hip_runs.specs.Operands.{values_of, bound}
use Rattle.hip_runs.specs.StoredParts.Persistence.{flushes_lines}
use Rattle.hip_runs.specs.Places.{body_at, code_at, end_at}
use Rattle.hip_runs.specs.Found.Reports.{checked_by}
use Rattle.hip_runs.specs.State.{Registers, Slot, Level, Flush, Frame, World, Counts, State, level_list, levels_of, site_of}
use Rattle.hip_runs.specs.Step.{state, is_bottom, is_cut, deed_at, event_of, event_at, event_on_ending, event}
use Rattle.hip_repairs.specs.declared.plan.Plan.{Plan}
use Rattle.hip_repairs.specs.Harmless.{marked_body, marked_at, is_inserted, inserted_on, stands_inserted}
use Rattle.hip_repairs.specs.Repaired.{Marked, renamed, clone_name, wanted_by, clones_of, repaired, instrs_of, repaired_body}
use Rattle.hip_runs.specs.Laws.Members.{get_drop}
use Rattle.hip_repairs.proofs.functions.Blocks.{body_twin, end_twin, end_action_twin}
use Rattle.hip_repairs.proofs.simulation.Facts.{Lines}
use Rattle.hip_repairs.proofs.functions.Lookup.{number_there}
use Rattle.hip_repairs.proofs.simulation.Pairs.{Quiet, nothing, fence, Ready, quiet, flush, tied, Below, bottom, on, below_size, Related, related, pending_lines}
use Rattle.hip_repairs.proofs.simulation.Sim.{extern_same, same_extern, defined_callee, called_twin}
use Rattle.hip_repairs.proofs.functions.Twins.{Twin, CallsTwin}
use Rattle.hip_repairs.specs.Laws.Callable.{IsCallable}

event_of_same : (I : Input) (fs fs' : List Frame) → is_bottom fs' ≡ is_bottom fs → (x : Action) → event_of I fs' x ≡ event_of I fs x
event_of_same I fs fs' e (Traps kind) = refl
event_of_same I fs fs' e (Assigns to v) = refl
event_of_same I fs fs' e (Allocates to a n) = refl
event_of_same I fs fs' e (Stores a bytes) = refl
event_of_same I fs fs' e (Flushes a n) = refl
event_of_same I fs fs' e (Persists a n) = refl
event_of_same I fs fs' e Fences = refl
event_of_same I fs fs' e (Asserts a n) = refl
event_of_same I fs fs' e (Prints z) = refl
event_of_same I fs fs' e (Reads to z rest) = refl
event_of_same I fs fs' e (Calls g rs to) = refl
event_of_same I fs fs' e (Jumps b rs) = refl
event_of_same I fs fs' e (Returns v) = rw e refl

event_at_same : (I : Input) (w : World) (fs fs' : List Frame) → is_bottom fs' ≡ is_bottom fs → (d : Deed) → event_at I w fs' d ≡ event_at I w fs d
event_at_same I w fs fs' e d = ap (cond (is_cut I w d) (events.End Cut)) (event_of_same I fs fs' e d.action)

module _ (P : Program) (plan : Plan) (skip : Site → Bool) where
  bottoms : {clone : Bool} {lvl lvl' : Option Level} {fs fs' : List Frame} → Below P plan skip clone lvl lvl' fs fs' → is_bottom fs' ≡ is_bottom fs
  bottoms bottom = refl
  bottoms (on t q u h b) = refl

module _ (P : Program) (plan : Plan) (skip : Site → Bool) (I : Input) (good : IsCallable P) (clone : Bool) (f f' b k : ℕ) (tw : Twin P plan skip clone f f') (w : World) (regs : Registers) (fs fs' : List Frame) (size : length fs' ≡ length fs) (bottom_too : is_bottom fs' ≡ is_bottom fs) where
  abbrev Q : Program
  Q = repaired P plan skip

  abbrev into : Bool
  into = clone || has_site plan.hoist (record { function = f; block = b; index = k })

  abbrev event_here : Instr → Event
  event_here i = event_at I w fs (record { turn = is_turn i; action = instr_action P I w (length fs) regs i })

  abbrev event_there : Instr → Event
  event_there i = event_at I w fs' (record { turn = is_turn i; action = instr_action Q I w (length fs') regs i })

  module _ (to : Option (List ℕ)) (ret : Option Scalar) (callee : List ℕ) (args : List Arg) (at_place : slice_get (body_at P f b) k ≡ Some (Call to ret callee args)) where
    abbrev values : List ℕ
    values = values_of P.globals I.base regs args

    abbrev of_call : Program → List Frame → List ℕ → Option ExternCall → Event
    of_call R gs name o = event_at I w gs (record { turn = not (is_flush_or_fence o); action = call_action R I w (length gs) o name values to })

    extern_event : (x : ExternCall) → call_of callee ≡ Some x → event_there (Call to ret (cond into (clone_name (clones_of P plan) callee) callee) args) ≡ event_here (Call to ret callee args)
    unfolding instr_action
    extern_event x q =
        ap (λ (name : List ℕ). of_call Q fs' name (call_of name)) (same_extern P plan skip good callee x q into)
        ∙ ap (of_call Q fs' callee) q
        ∙ ap (λ (y : Action). event_at I w fs' (record { turn = not (is_flush_or_fence (Some x)); action = y })) (extern_same P plan skip I w x values to)
        ∙ event_at_same I w fs fs' bottom_too (record { turn = not (is_flush_or_fence (Some x)); action = extern_action P I w x values to })
        ∙ sym (ap (of_call P fs callee) q)

    entered_event : (g : ℕ) (fn : Function) → function_number P callee ≡ Some g → slice_get P.functions g ≡ Some fn → (name : List ℕ) → CallsTwin P plan skip into name g fn →
        event_at I w fs' (record { turn = true; action = entered Q (length fs') name values to }) ≡ event_at I w fs (record { turn = true; action = entered P (length fs) callee values to })
    unfolding entered
    entered_event g fn e there name twin = rw (e, there, twin.found, twin.code, size) (go (not (nat_lt w.turns I.limit)) (nat_lt (length fs) 16383))
      where
        go : (cut deep : Bool) → cond cut (events.End Cut) (event_of I fs' (cond deep (Calls twin.number (bound fn.params values) to) (Traps traps.Depth))) ≡ cond cut (events.End Cut) (event_of I fs (cond deep (Calls g (bound fn.params values) to) (Traps traps.Depth)))
        go true deep = refl
        go false true = refl
        go false false = refl

    defined_event : call_of callee ≡ None → event_there (Call to ret (cond into (clone_name (clones_of P plan) callee) callee) args) ≡ event_here (Call to ret callee args)
    unfolding instr_action
    defined_event q =
        let g = defined_callee P plan skip good clone f f' b k tw to ret callee args at_place q in
        let there = number_there P callee g.0 g.1 in
        let twin = called_twin P plan skip good clone f f' b k tw to ret callee args at_place g.0 there.0 g.1 there.1 in
        ap (of_call Q fs' (cond into (clone_name (clones_of P plan) callee) callee)) twin.free
        ∙ entered_event g.0 there.0 g.1 there.1 (cond into (clone_name (clones_of P plan) callee) callee) twin
        ∙ sym (ap (of_call P fs callee) q)

    call_event : event_there (Call to ret (cond into (clone_name (clones_of P plan) callee) callee) args) ≡ event_here (Call to ret callee args)
    call_event = go (call_of callee) refl
      where
        go : (o : Option ExternCall) → call_of callee ≡ o → event_there (Call to ret (cond into (clone_name (clones_of P plan) callee) callee) args) ≡ event_here (Call to ret callee args)
        go (Some x) q = extern_event x q
        go None q = defined_event q

  instr_event : (i : Instr) → slice_get (body_at P f b) k ≡ Some i → event_there (renamed (clones_of P plan) i into) ≡ event_here i
  unfolding instr_action accessed allocated
  instr_event (Call to ret callee args) h = call_event to ret callee args h
  instr_event (Binary to op flags width x y) h = event_at_same I w fs fs' bottom_too (record { turn = true; action = instr_action P I w (length fs) regs (Binary to op flags width x y) })
  instr_event (Compare to pred ty x y) h = event_at_same I w fs fs' bottom_too (record { turn = true; action = instr_action P I w (length fs) regs (Compare to pred ty x y) })
  instr_event (Select to test ty x y) h = event_at_same I w fs fs' bottom_too (record { turn = true; action = instr_action P I w (length fs) regs (Select to test ty x y) })
  instr_event (Cast to op from x ty) h = event_at_same I w fs fs' bottom_too (record { turn = true; action = instr_action P I w (length fs) regs (Cast to op from x ty) })
  instr_event (Alloca to ty align) h = event_at_same I w fs fs' bottom_too (record { turn = true; action = instr_action P I w (length fs) regs (Alloca to ty align) })
  instr_event (Load to ty addr align) h = event_at_same I w fs fs' bottom_too (record { turn = true; action = instr_action P I w (length fs) regs (Load to ty addr align) })
  instr_event (Store ty value addr align) h = event_at_same I w fs fs' bottom_too (record { turn = true; action = instr_action P I w (length fs) regs (Store ty value addr align) })
  instr_event (Gep to inbounds ty pointer indices) h = event_at_same I w fs fs' bottom_too (record { turn = true; action = instr_action P I w (length fs) regs (Gep to inbounds ty pointer indices) })

-- ---- pairs of states

flush_checks_nothing : (I : Input) (b : Bool) (a n : ℕ) → checked_by I (cond b (events.Flush a n) events.Quiet) ≡ None
flush_checks_nothing I true a n = refl
flush_checks_nothing I false a n = refl

module _ (P : Program) (plan : Plan) (skip : Site → Bool) (I : Input) (good : IsCallable P) (Holds : List Level → Lines → Lines → Type 0) where
  module _ (w : World) (f b k f' k' m : ℕ) (dest : Option (List ℕ)) (lvl lvl' : Option Level) (regs : Registers) (slots slots' : List Slot) (clone : Bool) (tw : Twin P plan skip clone f f') (fs fs' : List Frame) (below : Below P plan skip clone lvl lvl' fs fs') (rest : List Instr) (e : drop k (body_at P f b) ≡ rest) where
    abbrev frame : Frame
    frame = record { function = f; block = b; place = k; registers = regs; mark = m; slots = slots; dest = dest; level = lvl }

    abbrev frame' : Frame
    frame' = record { function = f'; block = b; place = k'; registers = regs; mark = m; slots = slots'; dest = dest; level = lvl' }

    abbrev body' : List Marked
    body' = marked_body P (clones_of P plan) (wanted_by plan skip) clone f b

    abbrev more : List Marked
    more = repaired_body (clones_of P plan) (wanted_by plan skip) clone f b k rest

    abbrev event_by : Option End → List Instr → Event
    event_by o is = event_at I w fs (deed_of P I w (length fs) frame o is)

    abbrev event_by' : Option End → List Instr → Event
    event_by' o is = event_at I w fs' (deed_of (repaired P plan skip) I w (length fs') frame' o is)

    -- How an event of the repaired program relates to the program's, at an inserted instruction and elsewhere.
    abbrev Suits : Bool → Event → Event → Type 0
    Suits inserted x x' = (inserted ≡ true → checked_by I x' ≡ None) × (inserted ≡ false → x' ≡ x)

    rest_suits : (o : Option End) (is : List Instr) → drop k (body_at P f b) ≡ is → Suits (is_inserted (repaired_body (clones_of P plan) (wanted_by plan skip) clone f b k is)) (event_by o is) (event_by' o (instrs_of (repaired_body (clones_of P plan) (wanted_by plan skip) clone f b k is)))
    rest_suits o [] here = (
      λ z. absurd (let n : ⊥ = cc in n),
      λ _. ap (λ (x : Action). event_at I w fs' (record { turn = true; action = x })) (end_action_twin P plan skip clone f f' tw I b k k' m m regs slots slots' dest dest lvl lvl' o) ∙ event_at_same I w fs fs' (bottoms P plan skip below) (record { turn = true; action = end_action P I frame o }),
    )
    rest_suits o (i ∷ is) here = (
      λ z. absurd (let n : ⊥ = cc in n),
      λ _. instr_event P plan skip I good clone f f' b k tw w regs fs fs' (below_size P plan skip below) (bottoms P plan skip below) i (get_drop (body_at P f b) k i is here),
    )

    quiet_suits : (o : Option End) (pend : List Marked) (fenced : Bool) → Quiet pend fenced → Suits (is_inserted (pend ++ more)) (event_by o rest) (event_by' o (instrs_of (pend ++ more)))
    unfolding instr_action
    quiet_suits o [] fenced nothing = rest_suits o rest e
    quiet_suits o (x ∷ pend) fenced fence = (λ _. refl, λ z. absurd (let n : ⊥ = cc in n))

    ready_suits : (o : Option End) (pend : List Marked) (range : Option (ℕ × ℕ)) (fenced : Bool) → Ready P plan skip I w regs pend range fenced → Suits (is_inserted (pend ++ more)) (event_by o rest) (event_by' o (instrs_of (pend ++ more)))
    ready_suits o pend range fenced (quiet q) = quiet_suits o pend fenced q
    ready_suits o (x ∷ pend) range fenced (flush i a size no_turn acts q) = (λ _. rw (no_turn, acts (length fs')) (flush_checks_nothing I (flushes_lines I a size) _ _), λ z. absurd (let n : ⊥ = cc in n))

    both_suit : (pend : List Marked) (range : Option (ℕ × ℕ)) (fenced : Bool) → Ready P plan skip I w regs pend range fenced → drop k' body' ≡ pend ++ more → Suits (is_inserted (drop k' (marked_at P plan skip f' b))) (event_by (end_at P frame) (code_at P frame)) (event_by' (end_at (repaired P plan skip) frame') (code_at (repaired P plan skip) frame'))
    both_suit pend range fenced r e' =
        let code = ap (drop k') (body_twin P plan skip clone f f' tw b) ∙ drop-map (λ (x : Marked). x.0) k' body' ∙ ap instrs_of e' in
        subst (λ (ms : List Marked). Suits (is_inserted (drop k' ms)) (event_by (end_at P frame) (code_at P frame)) (event_by' (end_at (repaired P plan skip) frame') (code_at (repaired P plan skip) frame'))) (sym (tw.marked b))
        (subst (λ (o : Option End). Suits (is_inserted (drop k' body')) (event_by (end_at P frame) (code_at P frame)) (event_by' o (code_at (repaired P plan skip) frame'))) (sym (end_twin P plan skip clone f f' tw b))
        (subst (λ (is : List Instr). Suits (is_inserted (drop k' body')) (event_by (end_at P frame) (code_at P frame)) (event_by' (end_at P frame) is)) (sym code)
        (subst (λ (ms : List Marked). Suits (is_inserted ms) (event_by (end_at P frame) (code_at P frame)) (event_by' (end_at P frame) (instrs_of (pend ++ more)))) (sym e')
        (subst (λ (is : List Instr). Suits (is_inserted (pend ++ more)) (event_by (end_at P frame) is) (event_by' (end_at P frame) (instrs_of (pend ++ more)))) (sym e)
        (ready_suits (end_at P frame) pend range fenced r)))))

  -- What the two programs check next, at a state that has not ended.
  pub record Checks (s s' : State) : Type 0 where
    pub inserted : stands_inserted P plan skip s' ≡ true → checked_by I (event (repaired P plan skip) I s') ≡ None
    pub same : stands_inserted P plan skip s' ≡ false → event (repaired P plan skip) I s' ≡ event P I s
    pub holds : stands_inserted P plan skip s' ≡ false → Holds (levels_of s.frames) s.lines s'.lines

  holds_now : (w : World) (regs : Registers) (ls ls' : Lines) (up : List Level) (site : Flush) (pend more : List Marked) (range : Option (ℕ × ℕ)) (fenced : Bool) → Ready P plan skip I w regs pend range fenced → Holds up ls (pending_lines I site range fenced ls') → is_inserted (pend ++ more) ≡ false → Holds up ls ls'
  holds_now w regs ls ls' up site pend more range fenced (quiet nothing) h e = h
  holds_now w regs ls ls' up site pend more range fenced (quiet fence) h e = absurd (let n : ⊥ = cc in n)
  holds_now w regs ls ls' up site pend more range fenced (flush i a n no_turn acts q) h e = absurd (let n : ⊥ = cc in n)

  event_going : (R : Program) (w : World) (f : Frame) (fs : List Frame) (ls : Lines) (c : Counts) → w.ending ≡ None → event R I (state w (f ∷ fs) ls c) ≡ event_at I w fs (deed_at R I w f fs)
  unfolding event
  event_going R w f fs ls c going = ap (event_on_ending R I (state w (f ∷ fs) ls c)) going

  pub checks : (size : ℕ) (s s' : State) → Related P plan skip I Holds size s s' → s'.world.ending ≡ None → Checks s s'
  checks size s s' (related {w = w} {fs = fs} {fs' = fs'} {ls = ls} {ls' = ls'} {c = c} {c' = c'} {pend = pend} {range = range} {fenced = fenced} {clone = clone} (tied {f = f} {f' = f'} {b = b} {k = k} {k' = k'} {m = m} {dest = dest} {lvl = lvl} {lvl' = lvl'} {regs = regs} {slots = slots} {slots' = slots'} rest tw e e' same) r below a h le) going =
      let suit = both_suit w f b k f' k' m dest lvl lvl' regs slots slots' clone tw fs fs' below rest e pend range fenced r e' in
      let old : Frame = record { function = f; block = b; place = k; registers = regs; mark = m; slots = slots; dest = dest; level = lvl } in
      let new : Frame = record { function = f'; block = b; place = k'; registers = regs; mark = m; slots = slots'; dest = dest; level = lvl' } in
      let stands = ap (λ (o : Option Ending). inserted_on P plan skip o (new ∷ fs')) going in
      record {
        inserted = λ z. ap (checked_by I) (event_going (repaired P plan skip) w new fs' ls' c' going) ∙ suit.0 (sym stands ∙ z);
        same = λ z. event_going (repaired P plan skip) w new fs' ls' c' going ∙ suit.1 (sym stands ∙ z) ∙ sym (event_going P w old fs ls c going);
        holds = λ z. holds_now w regs ls ls' (level_list lvl (levels_of fs)) (record { step = c'.steps; site = site_of new }) pend (repaired_body (clones_of P plan) (wanted_by plan skip) clone f b k rest) range fenced r h (sym (ap is_inserted (ap (drop k') (tw.marked b) ∙ e')) ∙ sym stands ∙ z);
      }
