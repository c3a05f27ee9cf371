-- The repaired program's run follows the program's.
use Rattle.hip_runs.specs.Laws.HistoryLaws.{instr_at_place, has_history}
use Rattle.std.proofs.Common.{◌≡◌, ◌⊎◌, inl, inr, ℕ, zero, suc, ◌+◌, ◌-◌, ◌*◌, ◌/◌, ◌%◌, ◌<◌, ◌≤◌, Bool, true, false, cond, not, ◌&&◌, ◌||◌, nat_lt, nat_eq, List, [], ◌∷◌, ◌++◌, length, drop, Option, Some, None, slice_get, Result, Ok, Err, refl, sym, ap, ◌∙◌, subst, arith}
use Rattle.std.specs.List.{drop-map}
use Rattle.std.proofs.lemmas.Bool.Decides.{nat_tests}
use Rattle.std.specs.Prelude.{ℤ}
use Rattle.hip_types.specs.Numbers.{wrapped}
use Rattle.hip_types.specs.declared.number.Width.TheVariants.{W64}
use Rattle.hip_types.specs.declared.number.Bits.{Bits}
use Rattle.hip_types.specs.declared.number.Scalar.{Scalar}
use Rattle.hip_tree.specs.Sites.{has_site}
use Rattle.hip_tree.specs.declared.block.End.{End}
use Rattle.hip_tree.specs.declared.instr.Arg.{Arg}
use Rattle.hip_tree.specs.declared.instr.Instr.{Instr}
use Rattle.hip_tree.specs.declared.instr.Instr.TheVariants.{Binary, Compare, Select, Cast, Alloca, Load, Store, Gep, Call}
use Rattle.hip_tree.specs.declared.instr.Operand.{Operand}
use Rattle.hip_tree.specs.declared.program.Function.{Function}
use Rattle.hip_tree.specs.declared.program.Program.{Program}
use Rattle.hip_tree.specs.declared.site.Site.{Site}
use Rattle.hip_lines.specs.Line.{has_bytes, stored, fresh_lines}
use Rattle.hip_types.specs.Bytes.{bytes_of, little_endian}
use Rattle.hip_mem.specs.Laws.BytesLaws.{length-bytes_of}
use Rattle.hip_num.specs.declared.arithmetic.NumTrap.{NumTrap}
use Rattle.hip_externs.specs.Externs.{call_of, row_of}
use Rattle.hip_sound.specs.NumberedNames.{function_number}
use Rattle.hip_externs.specs.declared.call.ExternCall.{ExternCall}
use Rattle.hip_runs.specs.declared.event.Ending.{Ending}
use Rattle.hip_runs.specs.declared.event.Ending.TheVariants.{Stop, Trap, Cut}
use Rattle.hip_runs.specs.declared.event.TrapKind.{TrapKind}
use Rattle.hip_runs.specs.declared.input.Input.{Input}
use Rattle.hip_runs.specs.Actions.{Action, Traps, Assigns, Allocates, Stores, Flushes, Persists, Fences, Asserts, Prints, Reads, Calls, Jumps, Returns, in_region, are_valid, accessed, allocated, entered, flushing, call_action, extern_action, instr_action, end_action, is_turn, is_flush_or_fence, deed_of, read_next, calculated, jump, jump_to, line_action, arg_value, flushed_size}
use Rattle.hip_runs.specs.Operands.{value_of, values_of, assigned, bound, scalar_size, access_align}
use Rattle.hip_runs.specs.StoredParts.Persistence.{part_of_store, stored_lines}
use Rattle.hip_runs.specs.Places.{body_at, code_at, end_at}
use Rattle.hip_runs.specs.State.{Registers, Slot, Level, Flush, Frame, World, Counts, State, level_list, levels_of, site_of}
use Rattle.hip_runs.specs.Validity.{IsValid}
use Rattle.hip_runs.specs.Step.{state, stop, with_turn, with_register, with_block, with_bytes, with_output, with_left, next, leave, perform, carry_out, on_frames, on_ending, step, event_at, event, counted, run, start, start_world, start_frame, header_entries, main_number}
use Rattle.hip_repairs.specs.declared.plan.Plan.{Plan}
use Rattle.hip_repairs.specs.Harmless.{extents, marked_body, marked_at, is_inserted, inserted_on, stands_inserted, matched}
use Rattle.hip_repairs.specs.StayOutside.{StayOutside, stores_in_region}
use Rattle.hip_repairs.specs.Repaired.{Marked, flush_of, the_fence, renamed, clone_name, wanted_by, inserted_after, clones_of, cloned, repaired, instrs_of, repaired_body}
use Rattle.hip_repairs.proofs.simulation.Ahead.{Ahead, ahead_stored, ahead_flushed, ahead_more_flushed, ahead_fenced, ahead_more_fenced, ahead_start}
use Rattle.hip_runs.specs.Laws.EndLaws.{drop_next}
use Rattle.hip_runs.specs.Laws.Members.{get_drop}
use Rattle.hip_repairs.proofs.functions.Blocks.{body_twin, end_twin, end_action_twin}
use Rattle.hip_runs.specs.StoredParts.Parts.{In}
use Rattle.hip_runs.specs.StoredParts.History.{HasHistory}
use Rattle.hip_repairs.proofs.simulation.Facts.{Lines, Known, fence_if, flush_if, Keeps}
use Rattle.hip_repairs.proofs.simulation.Inserted.{flush_size, flush_size_there, flush_size_small, flushes_there, region_base, reaches, flush_action, flush_no_turn}
use Rattle.hip_repairs.proofs.functions.Lookup.{number_there, plain_twin, same_main, main_there, calls_plain, calls_clone, extern_name, hoisted_cloned, cloned_closed}
use Rattle.hip_repairs.proofs.simulation.Pairs.{Quiet, nothing, fence, Ready, quiet, flush, Tied, tied, Below, bottom, on, top_clone, below_size, Related, related, pending_lines, quiet_size, ready_size}
use Rattle.hip_repairs.proofs.functions.Twins.{Twin, CallsTwin}
use Rattle.hip_repairs.specs.Laws.Callable.{IsCallable}
use Rattle.hip_tree.specs.declared.block.End.TheVariants as ends
use Rattle.hip_externs.specs.declared.call.ExternCall.TheVariants as calls
use Rattle.hip_externs.specs.declared.call.LineEffect.{LineEffect}
use Rattle.hip_externs.specs.declared.call.LineEffect.TheVariants as effects
use Rattle.hip_runs.specs.declared.event.Event.TheVariants as events
use Rattle.hip_runs.specs.declared.event.TrapKind.TheVariants as traps

pub fence_quiet : (b : Bool) → Quiet (cond b ((the_fence, true) ∷ []) []) b
fence_quiet true = fence
fence_quiet false = nothing

pub or_left : (x y : Bool) → x ≡ true → x || y ≡ true
or_left true y e = refl
or_left false y e = absurd (let h : ⊥ = cc in h)

pub or_right : (x y : Bool) → y ≡ true → x || y ≡ true
or_right true y e = refl
or_right false y e = e

-- Actions that any instruction but a store and a call of a defined function may have.
abbrev pub is_plain : Action → Type 0
is_plain (Stores a bytes) = ⊥
is_plain (Calls g rs dest) = ⊥
is_plain (Jumps b rs) = ⊥
is_plain (Returns v) = ⊥
is_plain _ = Unit {0}

pub record IsPlain (x : Action) : Type 0 where
  pub is : is_plain x

plain_cond : (b : Bool) (x y : Action) → IsPlain x → IsPlain y → IsPlain (cond b x y)
plain_cond true x y p q = p
plain_cond false x y p q = q

plain_trap : (kind : TrapKind) → IsPlain (Traps kind)
plain_trap kind = record { is = tt }

plain_allocates : (dest : List ℕ) (a n : ℕ) → IsPlain (Allocates dest a n)
plain_allocates dest a n = record { is = tt }

plain_asserts : (a n : ℕ) → IsPlain (Asserts a n)
plain_asserts a n = record { is = tt }

plain_accessed : (P : Program) (I : Input) (w : World) (a n align : ℕ) (x : Action) → IsPlain x → IsPlain (accessed P I w a n align x)
unfolding accessed
plain_accessed P I w a n align x p = plain_cond _ _ _ (plain_cond _ _ _ p (plain_trap traps.Address)) (plain_trap traps.Misaligned)

pub plain_allocated : (w : World) (dest : List ℕ) (size align : ℕ) → IsPlain (allocated w dest size align)
unfolding allocated
plain_allocated w dest size align = plain_cond _ _ _ (plain_allocates dest _ size) (plain_trap traps.Stack)

plain_flushing : (P : Program) (I : Input) (w : World) (a n : ℕ) (x : Action) → IsPlain x → IsPlain (flushing P I w a n x)
unfolding flushing
plain_flushing P I w a n x p = plain_cond _ _ _ p (plain_cond _ _ _ p (plain_trap traps.Address))

plain_read : (dest : Option (List ℕ)) (left : List ℤ) → IsPlain (read_next dest left)
plain_read dest [] = plain_trap traps.InputEnd
plain_read dest (z ∷ rest) = record { is = tt }

pub plain_calculated : (dest : List ℕ) (r : Result Bits NumTrap) → IsPlain (calculated dest r)
plain_calculated dest (Ok b) = record { is = tt }
plain_calculated dest (Err t) = record { is = tt }

plain_lines : (P : Program) (I : Input) (w : World) (effect : LineEffect) (a n : ℕ)
    → IsPlain (line_action P I w effect a n)
plain_lines P I w effects.Nothing a n = plain_trap traps.Unreachable
plain_lines P I w effects.Flush a n = plain_flushing P I w a n _ (record { is = tt })
plain_lines P I w effects.Fence a n = record { is = tt }
plain_lines P I w effects.FlushAndFence a n = plain_flushing P I w a n _ (record { is = tt })

pub plain_extern : (P : Program) (I : Input) (w : World) (call : ExternCall) (values : List ℕ) (dest : Option (List ℕ)) → IsPlain (extern_action P I w call values dest)
plain_extern P I w calls.ReadI64 values dest = plain_read dest w.left
plain_extern P I w calls.PrintI64 values dest = record { is = tt }
plain_extern P I w calls.PmAssert values dest = plain_cond _ _ _ (plain_asserts _ _) (plain_trap traps.Address)
plain_extern P I w call values dest =
    plain_lines P I w (row_of call).effect (arg_value values 0) (flushed_size (row_of call).params values)

plain_assigns : (dest : Option (List ℕ)) (v : ℕ) → IsPlain (Assigns dest v)
plain_assigns dest v = record { is = tt }

pub plain_load : (P : Program) (I : Input) (w : World) (below : ℕ) (regs : Registers) (dest : List ℕ) (ty : Scalar) (addr : Operand) (align : Option ℕ) → IsPlain (instr_action P I w below regs (Load dest ty addr align))
unfolding instr_action
plain_load P I w below regs dest ty addr align = plain_accessed P I w _ _ _ _ (plain_assigns (Some dest) _)

-- What an external function does depends on the globals alone.
pub extern_same : (P : Program) (plan : Plan) (skip : Site → Bool) (I : Input) (w : World) (call : ExternCall) (values : List ℕ) (dest : Option (List ℕ)) → extern_action (repaired P plan skip) I w call values dest ≡ extern_action P I w call values dest
unfolding flushing
extern_same P plan skip I w calls.ReadI64 values dest = refl
extern_same P plan skip I w _ values dest = refl

-- The event of a store into the region.
store_event : (P : Program) (I : Input) (w : World) (f : Frame) (fs : List Frame) (ls : Lines) (c : Counts) (ty : Scalar) (value addr : Operand) (align : Option ℕ) (rest : List Instr) → w.ending ≡ None → code_at P f ≡ Store ty value addr align ∷ rest →
    nat_lt w.turns I.limit ≡ true → nat_eq (value_of P.globals I.base f.registers addr % access_align ty align) 0 ≡ true → are_valid P I w (value_of P.globals I.base f.registers addr) (scalar_size ty) ≡ true →
    in_region I (value_of P.globals I.base f.registers addr) (length (bytes_of (scalar_size ty) (value_of P.globals I.base f.registers value))) ≡ true →
    event P I (state w (f ∷ fs) ls c) ≡ events.Store (value_of P.globals I.base f.registers addr) (little_endian (bytes_of (scalar_size ty) (value_of P.globals I.base f.registers value))) (length (bytes_of (scalar_size ty) (value_of P.globals I.base f.registers value)))
unfolding event instr_action accessed
store_event P I w f fs ls c ty value addr align rest going code turn aligned valid region = rw (going, code, turn, aligned, valid, region) refl

pub get_in : {A : Type 0} (xs : List A) (k : ℕ) (x : A) → slice_get xs k ≡ Some x → In x xs
get_in [] k x e = absurd (let h : ⊥ = cc in h)
get_in (y ∷ xs) zero x e = inl (let h : x ≡ y = cc in h)
get_in (y ∷ xs) (suc k) x e = inr (get_in xs k x e)

abbrev pub is_end : Action → Type 0
is_end (Traps kind) = Unit {0}
is_end (Jumps b rs) = Unit {0}
is_end (Returns v) = Unit {0}
is_end _ = ⊥

end_jump : (P : Program) (I : Input) (f : Frame) (o : Option ℕ) → is_end (jump_to P I f o)
end_jump P I f None = tt
end_jump P I f (Some b) = tt

pub end_is : (P : Program) (I : Input) (f : Frame) (o : Option End) → is_end (end_action P I f o)
unfolding end_action jump
end_is P I f None = tt
end_is P I f (Some (ends.Br label)) = end_jump P I f _
end_is P I f (Some (ends.CondBr test first second)) = end_jump P I f _
end_is P I f (Some (ends.Switch width value other cases)) = end_jump P I f _
end_is P I f (Some (ends.Ret arg)) = tt
end_is P I f (Some ends.Unreachable) = tt

-- The function that a call enters, or its clone: in a clone, and where the call is hoisted.
module _ (P : Program) (plan : Plan) (skip : Site → Bool) (good : IsCallable P) (clone : Bool) (f f' b k : ℕ) (tw : Twin P plan skip clone f f') (to : Option (List ℕ)) (ret : Option Scalar) (callee : List ℕ) (args : List Arg) (at_place : slice_get (body_at P f b) k ≡ Some (Call to ret callee args)) where
  abbrev call_site : Site
  call_site = record { function = f; block = b; index = k }

  -- The function that is defined under the callee's name.
  pub defined_callee : call_of callee ≡ None → (g : ℕ) × (function_number P callee ≡ Some g)
  defined_callee q = go (good.calls f b k to ret callee args at_place)
    where
      go : ((x : ExternCall) × (call_of callee ≡ Some x)) ⊎ ((g : ℕ) × (function_number P callee ≡ Some g)) → (g : ℕ) × (function_number P callee ≡ Some g)
      go (inl x) = absurd (let e = x.1 in let n : ⊥ = cc in n)
      go (inr g) = g

  pub called_twin : (g : ℕ) (fn : Function) → function_number P callee ≡ Some g → slice_get P.functions g ≡ Some fn → CallsTwin P plan skip (clone || has_site plan.hoist call_site) (cond (clone || has_site plan.hoist call_site) (clone_name (clones_of P plan) callee) callee) g fn
  called_twin g fn e there = go (clone || has_site plan.hoist call_site) (cloned_by clone (has_site plan.hoist call_site) refl refl)
    where
      cloned_by : (x y : Bool) → clone ≡ x → has_site plan.hoist call_site ≡ y → x || y ≡ true → In g (cloned P plan)
      cloned_by true y u v z = let high = tw.high u in cloned_closed P plan skip good f b k to ret callee args g (get_in (cloned P plan) high.0 f high.2) at_place e
      cloned_by false true u v z = hoisted_cloned P plan skip good call_site to ret callee args g v (instr_at_place P f b k ∙ at_place) e
      cloned_by false false u v z = absurd (let n : ⊥ = cc in n)

      go : (into : Bool) → (into ≡ true → In g (cloned P plan)) → CallsTwin P plan skip into (cond into (clone_name (clones_of P plan) callee) callee) g fn
      go true i = calls_clone P plan skip good callee g fn e there (i refl)
      go false i = calls_plain P plan skip good callee g fn e there

-- A call of an external function keeps its name in a clone.
pub same_extern : (P : Program) (plan : Plan) (skip : Site → Bool) (good : IsCallable P) (callee : List ℕ) (x : ExternCall) → call_of callee ≡ Some x → (b : Bool) → cond b (clone_name (clones_of P plan) callee) callee ≡ callee
same_extern P plan skip good callee x q true = extern_name P plan skip good callee x q
same_extern P plan skip good callee x q false = refl

module _ (P : Program) (plan : Plan) (skip : Site → Bool) (I : Input) (good : IsCallable P) (valid_input : IsValid P I) (Holds : List Level → Lines → Lines → Type 0) (keeps : Keeps P plan skip I Holds) where
  abbrev Q : Program
  Q = repaired P plan skip

  -- The states after a step correspond.
  abbrev After : State → State → Type 0
  After s s' = Related P plan skip I Holds 2 s s'

  -- The fact after a fence that may be pending.
  fenced_too : (up : List Level) (ls ls' : Lines) (b : Bool) → Holds up ls ls' → Holds up ls (fence_if b ls')
  fenced_too up ls ls' true h = keeps.more_fence up ls ls' h
  fenced_too up ls ls' false h = h

  flushed_too : (up : List Level) (ls ls' : Lines) (b : Bool) (flush : Flush) (a n : ℕ) → Holds up ls ls' → Holds up ls (flush_if b I flush a n ls')
  flushed_too up ls ls' true x a n h = keeps.more_flush up ls ls' x a n h
  flushed_too up ls ls' false x a n h = h

  -- A pair of frames with nothing inserted next.
  module _ (clone : Bool) (f f' : Frame) (fs fs' : List Frame) (ls ls' : Lines) (t : Tied P plan skip clone [] f f') (below : Below P plan skip clone f.level f'.level fs fs') (ahead : Ahead ls ls') (holds : Holds (levels_of (f ∷ fs)) ls ls') where
    after_stop : (e : Ending) (w : World) (d d' : Counts) → After (stop e w (f ∷ fs) ls d) (stop e w (f' ∷ fs') ls' d')
    after_stop e w d d' = related t (quiet nothing) below ahead holds (omega arith)

    -- A step that is a turn or not, and the states after it.
    after_carry : (turn : Bool) (x x' : Action) (w : World) (c d c' d' : Counts) →
        ((turn && not (nat_lt w.turns I.limit)) ≡ false → After (perform I (cond turn (with_turn w) w) f fs ls c d x) (perform I (cond turn (with_turn w) w) f' fs' ls' c' d' x')) →
        After (carry_out I w f fs ls c d (record { turn = turn; action = x })) (carry_out I w f' fs' ls' c' d' (record { turn = turn; action = x' }))
    unfolding carry_out
    after_carry turn x x' w c d c' d' h = go (turn && not (nat_lt w.turns I.limit)) refl
      where
        go : (b : Bool) → (turn && not (nat_lt w.turns I.limit)) ≡ b →
            After (cond b (stop Cut w (f ∷ fs) ls d) (perform I (cond turn (with_turn w) w) f fs ls c d x)) (cond b (stop Cut w (f' ∷ fs') ls' d') (perform I (cond turn (with_turn w) w) f' fs' ls' c' d' x'))
        go true e = after_stop Cut w d d'
        go false e = h e

  -- A pair of frames at the same instruction.
  module _ (f b k f' k' m : ℕ) (dest : Option (List ℕ)) (lvl lvl' : Option Level) (regs : Registers) (slots slots' : List Slot) (same : extents slots' ≡ extents slots) (clone : Bool) (tw : Twin P plan skip clone f f') (fs fs' : List Frame) (below : Below P plan skip clone lvl lvl' fs fs') (ls ls' : Lines) (ahead : Ahead ls ls') (holds : Holds (level_list lvl (levels_of fs)) ls ls') (is : List Instr) where
    abbrev at_frame : ℕ → Registers → List Slot → Frame
    at_frame j rs sl = record { function = f; block = b; place = j; registers = rs; mark = m; slots = sl; dest = dest; level = lvl }

    abbrev at_frame' : ℕ → Registers → List Slot → Frame
    at_frame' j rs sl = record { function = f'; block = b; place = j; registers = rs; mark = m; slots = sl; dest = dest; level = lvl' }

    abbrev up : List Level
    up = level_list lvl (levels_of fs)

    abbrev here_site : Site
    here_site = record { function = f; block = b; index = k }

    abbrev inserted : Instr → List Marked
    inserted i = inserted_after (wanted_by plan skip) clone here_site i

    abbrev to_clone : Bool
    to_clone = clone || has_site plan.hoist here_site

    abbrev fenced_here : Bool
    fenced_here = has_site plan.fence_after here_site || has_site plan.hoist here_site

    abbrev Here : Instr → Type 0
    Here i = (drop k (body_at P f b) ≡ i ∷ is) × (drop k' (marked_body P (clones_of P plan) (wanted_by plan skip) clone f b) ≡ repaired_body (clones_of P plan) (wanted_by plan skip) clone f b k (i ∷ is))

    moved : (i : Instr) → Here i → (rs : Registers) (sl sl' : List Slot) → extents sl' ≡ extents sl → Tied P plan skip clone (inserted i) (at_frame (suc k) rs sl) (at_frame' (suc k') rs sl')
    moved i h rs sl sl' e = tied is tw (drop_next (body_at P f b) k i is h.0) (drop_next (marked_body P (clones_of P plan) (wanted_by plan skip) clone f b) k' (renamed (clones_of P plan) i to_clone, false) (inserted i ++ repaired_body (clones_of P plan) (wanted_by plan skip) clone f b (suc k) is) h.1) e

    here_tied : (i : Instr) → Here i → Tied P plan skip clone [] (at_frame k regs slots) (at_frame' k' regs slots')
    here_tied i h = tied (i ∷ is) tw h.0 h.1 same

    trapped : (i : Instr) → Here i → (w : World) (c d c' d' : Counts) (kind : TrapKind) → After (perform I w (at_frame k regs slots) fs ls c d (Traps kind)) (perform I w (at_frame' k' regs slots') fs' ls' c' d' (Traps kind))
    unfolding perform
    trapped i h w c d c' d' kind = after_stop clone (at_frame k regs slots) (at_frame' k' regs slots') fs fs' ls ls' (here_tied i h) below ahead holds (Trap kind) w d d'

    -- An instruction after which at most a fence is inserted.
    module _ (i : Instr) (h : Here i) (after : inserted i ≡ cond fenced_here ((the_fence, true) ∷ []) []) (c d c' d' : Counts) (timed : (g : Flush) → Known ls g → g.step < c.steps) where
      next_plain : (w : World) (rs : Registers) (sl sl' : List Slot) (ms ms' : Lines) → extents sl' ≡ extents sl → Ahead ms ms' → Holds up ms (fence_if fenced_here ms') →
          After (state w (at_frame (suc k) rs sl ∷ fs) ms d) (state w (at_frame' (suc k') rs sl' ∷ fs') ms' d')
      next_plain w rs sl sl' ms ms' e a q =
          related (subst (λ pend. Tied P plan skip clone pend (at_frame (suc k) rs sl) (at_frame' (suc k') rs sl')) after (moved i h rs sl sl' e)) (quiet (fence_quiet fenced_here)) below a q (ready_size {P = P} {plan = plan} {skip = skip} {I = I} {w = w} {regs = rs} (quiet (fence_quiet fenced_here)))

      after_plain : (w : World) (x : Action) → IsPlain x → After (perform I w (at_frame k regs slots) fs ls c d x) (perform I w (at_frame' k' regs slots') fs' ls' c' d' x)
      unfolding perform
      after_plain w (Traps kind) p = trapped i h w c d c' d' kind
      after_plain w (Assigns to v) p = next_plain w (assigned to v regs) slots slots' ls ls' same ahead (fenced_too up ls ls' fenced_here holds)
      after_plain w (Allocates to a n) p =
          next_plain (with_block a n w) (assigned (Some to) a regs) (record { addr = a; size = n; site = here_site } ∷ slots) (record { addr = a; size = n; site = site_of (at_frame' k' regs slots') } ∷ slots') ls ls' (ap (λ es. record { addr = a; size = n } ∷ es) same) ahead (fenced_too up ls ls' fenced_here holds)
      after_plain w (Stores a bytes) p = absurd p.is
      after_plain w (Flushes a n) p =
          next_plain w regs slots slots' _ _ same (ahead_flushed I _ _ a n ls ls' ahead)
          (keeps.flush up ls ls' (record { step = c.steps; site = here_site }) (record { step = c'.steps; site = site_of (at_frame' k' regs slots') }) a n fenced_here (or_left (has_site plan.fence_after here_site) (has_site plan.hoist here_site)) timed holds)
      after_plain w (Persists a n) p =
          next_plain w regs slots slots' _ _ same (ahead_fenced _ _ (ahead_flushed I _ _ a n ls ls' ahead))
          (fenced_too up _ _ fenced_here (keeps.persist up ls ls' (record { step = c.steps; site = here_site }) (record { step = c'.steps; site = site_of (at_frame' k' regs slots') }) a n holds))
      after_plain w Fences p = next_plain w regs slots slots' _ _ same (ahead_fenced ls ls' ahead) (fenced_too up _ _ fenced_here (keeps.fence up ls ls' holds))
      after_plain w (Asserts a n) p = next_plain w regs slots slots' ls ls' same ahead (fenced_too up ls ls' fenced_here holds)
      after_plain w (Prints z) p = next_plain (with_output z w) regs slots slots' ls ls' same ahead (fenced_too up ls ls' fenced_here holds)
      after_plain w (Reads to z rest) p = next_plain (with_left rest w) (assigned to (wrapped W64 z) regs) slots slots' ls ls' same ahead (fenced_too up ls ls' fenced_here holds)
      after_plain w (Calls g rs to) p = absurd p.is
      after_plain w (Jumps b2 rs) p = absurd p.is
      after_plain w (Returns v) p = absurd p.is

    -- ---- a store

    module _ (ty : Scalar) (value addr : Operand) (align : Option ℕ) (h : Here (Store ty value addr align)) (w : World) (c d c' d' : Counts) where
      abbrev store_address : ℕ
      store_address = value_of P.globals I.base regs addr

      abbrev store_bytes : List ℕ
      store_bytes = bytes_of (scalar_size ty) (value_of P.globals I.base regs value)

      abbrev flush_wanted : Bool
      flush_wanted = has_site plan.flush_after here_site || (clone && not (skip here_site))

      abbrev later_flush : Flush
      later_flush = record { step = d'.steps; site = record { function = f'; block = b; index = suc k' } }

      -- The fact about the lines after the store, whether it is in the region or not.
      store_holds : length store_bytes ≡ scalar_size ty → store_address % access_align ty align ≡ 0 → (in_region I store_address (length store_bytes) ≡ true → StayOutside P skip → skip here_site ≡ false) →
          Holds up (stored_lines I c here_site up store_address store_bytes ls)
          (fence_if fenced_here (flush_if flush_wanted I later_flush store_address (flush_size ty align) (stored_lines I c' (record { function = f'; block = b; index = k' }) (level_list lvl' (levels_of fs')) store_address store_bytes ls')))
      store_holds size aligned still = go (in_region I store_address (length store_bytes)) refl
        where
          go : (r : Bool) → in_region I store_address (length store_bytes) ≡ r →
              Holds up (cond r (stored (part_of_store c here_site up (store_address - I.base) store_bytes) (store_address - I.base) (length store_bytes) ls) ls)
              (fence_if fenced_here (flush_if flush_wanted I later_flush store_address (flush_size ty align) (cond r (stored (part_of_store c' (record { function = f'; block = b; index = k' }) (level_list lvl' (levels_of fs')) (store_address - I.base) store_bytes) (store_address - I.base) (length store_bytes) ls') ls')))
          go true e =
              keeps.store up (level_list lvl' (levels_of fs')) c c' here_site (record { function = f'; block = b; index = k' }) store_address store_bytes clone later_flush (flush_size ty align) ls ls' e
              (flushes_there I store_address (flush_size ty align) (length store_bytes) (flush_size_there ty align) (omega (arith, size, flush_size_small ty align)) e)
              (λ j. reaches store_address I.base j valid_input.base (region_base I store_address (length store_bytes) e) ty align aligned ∙ ap (λ n. has_bytes j (store_address - I.base) n) (sym size))
              (λ z. (tw.plain z).1)
              (top_clone P plan skip below)
              (still e)
              holds
          go false e = fenced_too up ls _ fenced_here (flushed_too up ls ls' flush_wanted later_flush store_address (flush_size ty align) holds)

      ready_store : are_valid P I w store_address (scalar_size ty) ≡ true → (range : Bool) →
          Ready P plan skip I (with_bytes store_address store_bytes (with_turn w)) regs (cond range ((flush_of ty addr align, true) ∷ []) [] ++ cond fenced_here ((the_fence, true) ∷ []) []) (cond range (Some (store_address, flush_size ty align)) None) fenced_here
      ready_store valid true = flush (flush_of ty addr align) store_address (flush_size ty align) (flush_no_turn Q I w 0 regs ty addr align) (λ below. flush_action Q I (with_bytes store_address store_bytes (with_turn w)) below regs ty addr align valid) (fence_quiet fenced_here)
      ready_store valid false = quiet (fence_quiet fenced_here)

      pending_store : (range : Bool) (ms : Lines) → pending_lines I later_flush (cond range (Some (store_address, flush_size ty align)) None) fenced_here ms ≡ fence_if fenced_here (flush_if range I later_flush store_address (flush_size ty align) ms)
      pending_store true ms = refl
      pending_store false ms = refl

      stored_both : length store_bytes ≡ scalar_size ty → store_address % access_align ty align ≡ 0 → are_valid P I w store_address (scalar_size ty) ≡ true → (in_region I store_address (length store_bytes) ≡ true → StayOutside P skip → skip here_site ≡ false) →
          After (perform I (with_turn w) (at_frame k regs slots) fs ls c d (Stores store_address store_bytes)) (perform I (with_turn w) (at_frame' k' regs slots') fs' ls' c' d' (Stores store_address store_bytes))
      unfolding perform
      stored_both size aligned valid still =
          related (moved (Store ty value addr align) h regs slots slots' same) (ready_store valid flush_wanted) below (ahead_stored I c c' here_site (record { function = f'; block = b; index = k' }) up (level_list lvl' (levels_of fs')) store_address store_bytes ls ls' ahead)
          (subst (λ (ms : Lines). Holds up (stored_lines I c here_site up store_address store_bytes ls) ms) (sym (pending_store flush_wanted _)) (store_holds size aligned still))
          (ready_size (ready_store valid flush_wanted))

      after_store : length store_bytes ≡ scalar_size ty →
          (nat_eq (store_address % access_align ty align) 0 ≡ true → are_valid P I w store_address (scalar_size ty) ≡ true → in_region I store_address (length store_bytes) ≡ true → StayOutside P skip → skip here_site ≡ false) →
          After (perform I (with_turn w) (at_frame k regs slots) fs ls c d (instr_action P I w (length fs) regs (Store ty value addr align))) (perform I (with_turn w) (at_frame' k' regs slots') fs' ls' c' d' (instr_action Q I w (length fs') regs (Store ty value addr align)))
      unfolding instr_action accessed
      after_store size still = go (nat_eq (store_address % access_align ty align) 0) refl (are_valid P I w store_address (scalar_size ty)) refl
        where
          go : (b1 : Bool) → nat_eq (store_address % access_align ty align) 0 ≡ b1 → (b2 : Bool) → are_valid P I w store_address (scalar_size ty) ≡ b2 →
              After (perform I (with_turn w) (at_frame k regs slots) fs ls c d (cond b1 (cond b2 (Stores store_address store_bytes) (Traps traps.Address)) (Traps traps.Misaligned)))
              (perform I (with_turn w) (at_frame' k' regs slots') fs' ls' c' d' (cond b1 (cond b2 (Stores store_address store_bytes) (Traps traps.Address)) (Traps traps.Misaligned)))
          go true e1 true e2 = let aligned : store_address % access_align ty align ≡ 0 = grind (arith, nat_tests) in stored_both size aligned e2 (still e1 e2)
          go true e1 false e2 = trapped (Store ty value addr align) h (with_turn w) c d c' d' traps.Address
          go false e1 b2 e2 = trapped (Store ty value addr align) h (with_turn w) c d c' d' traps.Misaligned

    -- ---- a call of a defined function, or of its clone

    module _ (to : Option (List ℕ)) (ret : Option Scalar) (callee : List ℕ) (args : List Arg) (h : Here (Call to ret callee args)) (w : World) (c d c' d' : Counts) (timed : (g : Flush) → Known ls g → g.step < c.steps) where
      abbrev call_instr : Instr
      call_instr = Call to ret callee args

      -- The two frames that the call makes.
      after_enter : (into : Bool) → (clone ≡ true → into ≡ true) → (has_site plan.hoist here_site ≡ true → into ≡ true) → (g g' : ℕ) (rs : Registers) → Twin P plan skip into g g' →
          After (perform I (with_turn w) (at_frame k regs slots) fs ls c d (Calls g rs to)) (perform I (with_turn w) (at_frame' k' regs slots') fs' ls' c' d' (Calls g' rs to))
      unfolding perform
      after_enter into into_clone into_hoist g g' rs called =
          related (tied (body_at P g 0) called refl refl refl) (quiet nothing)
          (on (moved call_instr h regs slots slots' same) (fence_quiet fenced_here) into_clone (λ q. (into_hoist q, or_right (has_site plan.fence_after here_site) (has_site plan.hoist here_site) q)) below)
          ahead (keeps.call up (record { call = here_site; birth = c.steps }) ls ls' holds) (omega arith)

      abbrev call_values : List ℕ
      call_values = values_of P.globals I.base regs args

      after_bound : (into : Bool) → (clone ≡ true → into ≡ true) → (has_site plan.hoist here_site ≡ true → into ≡ true) → (callee' : List ℕ) (g : ℕ) (fn : Function) → function_number P callee ≡ Some g → slice_get P.functions g ≡ Some fn → CallsTwin P plan skip into callee' g fn →
          After (perform I (with_turn w) (at_frame k regs slots) fs ls c d (entered P (length fs) callee call_values to)) (perform I (with_turn w) (at_frame' k' regs slots') fs' ls' c' d' (entered Q (length fs') callee' call_values to))
      unfolding entered
      after_bound into into_clone into_hoist callee' g fn e there twin =
          rw (e, there, twin.found, twin.code, below_size P plan skip below)
          (go (nat_lt (length fs) 16383))
        where
          go : (b : Bool) → After (perform I (with_turn w) (at_frame k regs slots) fs ls c d (cond b (Calls g (bound fn.params call_values) to) (Traps traps.Depth))) (perform I (with_turn w) (at_frame' k' regs slots') fs' ls' c' d' (cond b (Calls twin.number (bound fn.params call_values) to) (Traps traps.Depth)))
          go true = after_enter into into_clone into_hoist g twin.number (bound fn.params call_values) twin.twin
          go false = trapped call_instr h (with_turn w) c d c' d' traps.Depth

      -- A call of an external function.
      after_extern : (e : ExternCall) → call_of callee ≡ Some e →
          After (carry_out I w (at_frame k regs slots) fs ls c d (record { turn = is_turn call_instr; action = instr_action P I w (length fs) regs call_instr }))
          (carry_out I w (at_frame' k' regs slots') fs' ls' c' d' (record { turn = is_turn (renamed (clones_of P plan) call_instr to_clone); action = instr_action Q I w (length fs') regs (renamed (clones_of P plan) call_instr to_clone) }))
      unfolding instr_action
      after_extern e q =
          subst (λ (name : List ℕ). After (carry_out I w (at_frame k regs slots) fs ls c d (record { turn = not (is_flush_or_fence (call_of callee)); action = call_action P I w (length fs) (call_of callee) callee call_values to }))
          (carry_out I w (at_frame' k' regs slots') fs' ls' c' d' (record { turn = not (is_flush_or_fence (call_of name)); action = call_action Q I w (length fs') (call_of name) name call_values to }))) (sym (same_extern P plan skip good callee e q to_clone))
          (subst (λ (o : Option ExternCall). After (carry_out I w (at_frame k regs slots) fs ls c d (record { turn = not (is_flush_or_fence o); action = call_action P I w (length fs) o callee call_values to }))
          (carry_out I w (at_frame' k' regs slots') fs' ls' c' d' (record { turn = not (is_flush_or_fence o); action = call_action Q I w (length fs') o callee call_values to }))) (sym q)
          (subst (λ (x : Action). After (carry_out I w (at_frame k regs slots) fs ls c d (record { turn = not (is_flush_or_fence (Some e)); action = extern_action P I w e call_values to }))
          (carry_out I w (at_frame' k' regs slots') fs' ls' c' d' (record { turn = not (is_flush_or_fence (Some e)); action = x }))) (sym (extern_same P plan skip I w e call_values to))
          (after_carry clone (at_frame k regs slots) (at_frame' k' regs slots') fs fs' ls ls' (here_tied call_instr h) below ahead holds (not (is_flush_or_fence (Some e))) _ _ w c d c' d'
          (λ _. after_plain call_instr h refl c d c' d' timed (cond (not (is_flush_or_fence (Some e))) (with_turn w) w) (extern_action P I w e call_values to) (plain_extern P I w e call_values to)))))

      after_defined : call_of callee ≡ None →
          After (carry_out I w (at_frame k regs slots) fs ls c d (record { turn = is_turn call_instr; action = instr_action P I w (length fs) regs call_instr }))
          (carry_out I w (at_frame' k' regs slots') fs' ls' c' d' (record { turn = is_turn (renamed (clones_of P plan) call_instr to_clone); action = instr_action Q I w (length fs') regs (renamed (clones_of P plan) call_instr to_clone) }))
      unfolding instr_action
      after_defined q =
          let at_place = get_drop (body_at P f b) k call_instr is h.0 in
          let g = defined_callee P plan skip good clone f f' b k tw to ret callee args at_place q in
          let there = number_there P callee g.0 g.1 in
          by_twin g.0 there.0 g.1 there.1 (called_twin P plan skip good clone f f' b k tw to ret callee args at_place g.0 there.0 g.1 there.1)
        where
          by_twin : (g : ℕ) (fn : Function) → function_number P callee ≡ Some g → slice_get P.functions g ≡ Some fn → CallsTwin P plan skip to_clone (cond to_clone (clone_name (clones_of P plan) callee) callee) g fn →
              After (carry_out I w (at_frame k regs slots) fs ls c d (record { turn = is_turn call_instr; action = instr_action P I w (length fs) regs call_instr }))
              (carry_out I w (at_frame' k' regs slots') fs' ls' c' d' (record { turn = is_turn (renamed (clones_of P plan) call_instr to_clone); action = instr_action Q I w (length fs') regs (renamed (clones_of P plan) call_instr to_clone) }))
          by_twin g fn e there twin =
              subst (λ (o : Option ExternCall). After (carry_out I w (at_frame k regs slots) fs ls c d (record { turn = not (is_flush_or_fence o); action = call_action P I w (length fs) o callee call_values to }))
              (carry_out I w (at_frame' k' regs slots') fs' ls' c' d' (record { turn = is_turn (renamed (clones_of P plan) call_instr to_clone); action = instr_action Q I w (length fs') regs (renamed (clones_of P plan) call_instr to_clone) }))) (sym q)
              (subst (λ (o : Option ExternCall). After (carry_out I w (at_frame k regs slots) fs ls c d (record { turn = true; action = entered P (length fs) callee call_values to }))
              (carry_out I w (at_frame' k' regs slots') fs' ls' c' d' (record { turn = not (is_flush_or_fence o); action = call_action Q I w (length fs') o (cond to_clone (clone_name (clones_of P plan) callee) callee) call_values to }))) (sym twin.free)
              (after_carry clone (at_frame k regs slots) (at_frame' k' regs slots') fs fs' ls ls' (here_tied call_instr h) below ahead holds true _ _ w c d c' d'
              (λ _. after_bound to_clone (or_left clone (has_site plan.hoist here_site)) (or_right clone (has_site plan.hoist here_site)) (cond to_clone (clone_name (clones_of P plan) callee) callee) g fn e there twin)))

      after_call : After (carry_out I w (at_frame k regs slots) fs ls c d (record { turn = is_turn call_instr; action = instr_action P I w (length fs) regs call_instr }))
          (carry_out I w (at_frame' k' regs slots') fs' ls' c' d' (record { turn = is_turn (renamed (clones_of P plan) call_instr to_clone); action = instr_action Q I w (length fs') regs (renamed (clones_of P plan) call_instr to_clone) }))
      after_call = go (call_of callee) refl
        where
          go : (o : Option ExternCall) → call_of callee ≡ o → After (carry_out I w (at_frame k regs slots) fs ls c d (record { turn = is_turn call_instr; action = instr_action P I w (length fs) regs call_instr }))
              (carry_out I w (at_frame' k' regs slots') fs' ls' c' d' (record { turn = is_turn (renamed (clones_of P plan) call_instr to_clone); action = instr_action Q I w (length fs') regs (renamed (clones_of P plan) call_instr to_clone) }))
          go (Some x) q = after_extern x q
          go None q = after_defined q

    -- ---- each instruction

    timed_at : (w : World) (c : Counts) → (reach : (n : ℕ) × (run P I n ≡ state w (at_frame k regs slots ∷ fs) ls c)) → (g : Flush) → Known ls g → g.step < c.steps
    timed_at w c reach g known = (subst (HasHistory P) reach.1 (has_history P I reach.0)).flush_made known.0 g known.1 known.2

    after_instr : (i : Instr) → Here i → (w : World) (c d c' d' : Counts) → w.ending ≡ None → (reach : (n : ℕ) × (run P I n ≡ state w (at_frame k regs slots ∷ fs) ls c)) →
        After (carry_out I w (at_frame k regs slots) fs ls c d (record { turn = is_turn i; action = instr_action P I w (length fs) regs i }))
        (carry_out I w (at_frame' k' regs slots') fs' ls' c' d' (record { turn = is_turn (renamed (clones_of P plan) i to_clone); action = instr_action Q I w (length fs') regs (renamed (clones_of P plan) i to_clone) }))
    unfolding instr_action accessed allocated
    after_instr (Store ty value addr align) h w c d c' d' going reach =
        after_carry clone (at_frame k regs slots) (at_frame' k' regs slots') fs fs' ls ls' (here_tied (Store ty value addr align) h) below ahead holds true _ _ w c d c' d'
        (λ cut. after_store ty value addr align h w c d c' d' (length-bytes_of (scalar_size ty) (value_of P.globals I.base regs value)) (λ aligned valid region still. not_skipped cut aligned valid region still (skip here_site) refl))
      where
        not_skipped : not (nat_lt w.turns I.limit) ≡ false → nat_eq (value_of P.globals I.base regs addr % access_align ty align) 0 ≡ true → are_valid P I w (value_of P.globals I.base regs addr) (scalar_size ty) ≡ true →
            in_region I (value_of P.globals I.base regs addr) (length (bytes_of (scalar_size ty) (value_of P.globals I.base regs value))) ≡ true → StayOutside P skip → (x : Bool) → skip here_site ≡ x → x ≡ false
        not_skipped cut aligned valid region still false e = refl
        not_skipped cut aligned valid region still true e =
            absurd (still I valid_input reach.0 (at_frame k regs slots) fs (ap (λ (s : State). s.frames) reach.1) e
            (subst stores_in_region (sym (ap (event P I) reach.1 ∙ store_event P I w (at_frame k regs slots) fs ls c ty value addr align is going h.0 (positive (nat_lt w.turns I.limit) cut) aligned valid region)) tt))
          where
            positive : (b2 : Bool) → not b2 ≡ false → b2 ≡ true
            positive true z = refl
            positive false z = absurd (let n : ⊥ = cc in n)
    after_instr (Call to ret callee args) h w c d c' d' going reach = after_call to ret callee args h w c d c' d' (timed_at w c reach)
    after_instr (Binary to op flags width x y) h w c d c' d' going reach = after_carry clone (at_frame k regs slots) (at_frame' k' regs slots') fs fs' ls ls' (here_tied _ h) below ahead holds true _ _ w c d c' d' (λ _. after_plain _ h refl c d c' d' (timed_at w c reach) (with_turn w) _ (plain_calculated to _))
    after_instr (Compare to pred ty x y) h w c d c' d' going reach = after_carry clone (at_frame k regs slots) (at_frame' k' regs slots') fs fs' ls ls' (here_tied _ h) below ahead holds true _ _ w c d c' d' (λ _. after_plain _ h refl c d c' d' (timed_at w c reach) (with_turn w) _ (record { is = tt }))
    after_instr (Select to test ty x y) h w c d c' d' going reach = after_carry clone (at_frame k regs slots) (at_frame' k' regs slots') fs fs' ls ls' (here_tied _ h) below ahead holds true _ _ w c d c' d' (λ _. after_plain _ h refl c d c' d' (timed_at w c reach) (with_turn w) _ (record { is = tt }))
    after_instr (Cast to op from x ty) h w c d c' d' going reach = after_carry clone (at_frame k regs slots) (at_frame' k' regs slots') fs fs' ls ls' (here_tied _ h) below ahead holds true _ _ w c d c' d' (λ _. after_plain _ h refl c d c' d' (timed_at w c reach) (with_turn w) _ (record { is = tt }))
    after_instr (Alloca to ty align) h w c d c' d' going reach = after_carry clone (at_frame k regs slots) (at_frame' k' regs slots') fs fs' ls ls' (here_tied _ h) below ahead holds true _ _ w c d c' d' (λ _. after_plain _ h refl c d c' d' (timed_at w c reach) (with_turn w) _ (plain_allocated w to _ _))
    after_instr (Load to ty addr align) h w c d c' d' going reach = after_carry clone (at_frame k regs slots) (at_frame' k' regs slots') fs fs' ls ls' (here_tied _ h) below ahead holds true _ _ w c d c' d' (λ _. after_plain _ h refl c d c' d' (timed_at w c reach) (with_turn w) (instr_action P I w (length fs) regs (Load to ty addr align)) (plain_load P I w (length fs) regs to ty addr align))
    after_instr (Gep to inbounds ty pointer indices) h w c d c' d' going reach = after_carry clone (at_frame k regs slots) (at_frame' k' regs slots') fs fs' ls ls' (here_tied _ h) below ahead holds true _ _ w c d c' d' (λ _. after_plain _ h refl c d c' d' (timed_at w c reach) (with_turn w) _ (record { is = tt }))

  -- ---- the block's end

  assigned_tied : {clone : Bool} {pend : List Marked} {g g' : Frame} (to : Option (List ℕ)) (v : ℕ) → Tied P plan skip clone pend g g' → Tied P plan skip clone pend (with_register to v g) (with_register to v g')
  assigned_tied to v (tied rest tw e e' same) = tied rest tw e e' same

  same_dest : {clone : Bool} {pend : List Marked} {g g' : Frame} → Tied P plan skip clone pend g g' → g'.dest ≡ g.dest
  same_dest (tied rest tw e e' same) = refl

  same_mark : {clone : Bool} {pend : List Marked} {g g' : Frame} → Tied P plan skip clone pend g g' → g'.mark ≡ g.mark
  same_mark (tied rest tw e e' same) = refl

  popped : (up : List Level) (lv : Level) (above fenced : Bool) (ls ls' : Lines) → (has_site plan.hoist lv.call ≡ true → (above ≡ true) × (fenced ≡ true)) → Holds (lv ∷ up) ls ls' → Holds up ls (fence_if fenced ls')
  popped up lv above true ls ls' h a = keeps.fenced_return up lv ls ls' a
  popped up lv above false ls ls' h a = keeps.return up lv ls ls' (λ q. let z = (h q).1 in cc) a

  after_leave : (clone : Bool) (lvl lvl' : Option Level) (v : ℕ) (w : World) (f f' : Frame) (fs fs' : List Frame) (ls ls' : Lines) (d d' : Counts) → f.level ≡ lvl → f'.level ≡ lvl' → Tied P plan skip clone [] f f' → Below P plan skip clone lvl lvl' fs fs' → Ahead ls ls' → Holds (level_list lvl (levels_of fs)) ls ls' →
      After (leave v w f fs ls d) (leave v w f' fs' ls' d')
  unfolding leave
  after_leave clone lvl lvl' v w f f' fs fs' ls ls' d d' e e' t (bottom) ahead holds =
      after_stop clone f f' [] [] ls ls' t (subst (λ (l : Option Level). Below P plan skip clone l f'.level [] []) (sym e) (subst (λ (l : Option Level). Below P plan skip clone None l [] []) (sym e') bottom)) ahead (subst (λ (l : Option Level). Holds (level_list l []) ls ls') (sym e) holds) (Stop _) w d d'
  after_leave clone lvl lvl' v w f f' fs fs' ls ls' d d' e e' t (on {above = above} {clone = inner} {lv = lv} {f = g} {f' = g'} {fs = gs} {fs' = gs'} {fenced = fenced} u q rises hoisted below) ahead holds =
      subst (λ (to : Option (List ℕ)). After (state (record w { mark = f.mark }) (with_register f.dest v g ∷ gs) ls d) (state (record w { mark = f'.mark }) (with_register to v g' ∷ gs') ls' d')) (sym (same_dest t))
      (subst (λ (m : ℕ). After (state (record w { mark = f.mark }) (with_register f.dest v g ∷ gs) ls d) (state (record w { mark = m }) (with_register f.dest v g' ∷ gs') ls' d')) (sym (same_mark t))
      (related (assigned_tied f.dest v u) (quiet q) below ahead (popped (levels_of (g ∷ gs)) lv above fenced ls ls' hoisted holds) (omega (arith, quiet_size q))))

  -- A pair of frames at the end of the same block.
  module _ (f b k f' k' m : ℕ) (dest : Option (List ℕ)) (lvl lvl' : Option Level) (regs : Registers) (slots slots' : List Slot) (same : extents slots' ≡ extents slots) (clone : Bool) (tw : Twin P plan skip clone f f') (fs fs' : List Frame) (below : Below P plan skip clone lvl lvl' fs fs') (ls ls' : Lines) (ahead : Ahead ls ls') (holds : Holds (level_list lvl (levels_of fs)) ls ls') (w : World) (c d c' d' : Counts) where
    abbrev end_frame : ℕ → Registers → Frame
    end_frame j rs = record { function = f; block = j; place = k; registers = rs; mark = m; slots = slots; dest = dest; level = lvl }

    abbrev end_frame' : ℕ → Registers → Frame
    end_frame' j rs = record { function = f'; block = j; place = k'; registers = rs; mark = m; slots = slots'; dest = dest; level = lvl' }

    after_end : Tied P plan skip clone [] (end_frame b regs) (end_frame' b regs) → (x : Action) → is_end x → After (perform I (with_turn w) (end_frame b regs) fs ls c d x) (perform I (with_turn w) (end_frame' b regs) fs' ls' c' d' x)
    unfolding perform
    after_end t (Traps kind) p = after_stop clone (end_frame b regs) (end_frame' b regs) fs fs' ls ls' t below ahead holds (Trap kind) (with_turn w) d d'
    after_end t (Jumps to rs) p = related (tied (body_at P f to) tw refl refl same) (quiet nothing) below ahead holds (omega arith)
    after_end t (Returns v) p = after_leave clone lvl lvl' v (with_turn w) (end_frame b regs) (end_frame' b regs) fs fs' ls ls' d d' refl refl t below ahead holds
    after_end t (Assigns to v) p = absurd p
    after_end t (Allocates to a n) p = absurd p
    after_end t (Stores a bytes) p = absurd p
    after_end t (Flushes a n) p = absurd p
    after_end t (Persists a n) p = absurd p
    after_end t Fences p = absurd p
    after_end t (Asserts a n) p = absurd p
    after_end t (Prints z) p = absurd p
    after_end t (Reads to z rest) p = absurd p
    after_end t (Calls g rs to) p = absurd p

    after_block : Tied P plan skip clone [] (end_frame b regs) (end_frame' b regs) → (o : Option End) →
        After (carry_out I w (end_frame b regs) fs ls c d (record { turn = true; action = end_action P I (end_frame b regs) o })) (carry_out I w (end_frame' b regs) fs' ls' c' d' (record { turn = true; action = end_action Q I (end_frame' b regs) o }))
    after_block t o =
        subst (λ (x : Action). After (carry_out I w (end_frame b regs) fs ls c d (record { turn = true; action = end_action P I (end_frame b regs) o })) (carry_out I w (end_frame' b regs) fs' ls' c' d' (record { turn = true; action = x }))) (sym (end_action_twin P plan skip clone f f' tw I b k k' m m regs slots slots' dest dest lvl lvl' o))
        (after_carry clone (end_frame b regs) (end_frame' b regs) fs fs' ls ls' t below ahead holds true _ _ w c d c' d' (λ _. after_end t (end_action P I (end_frame b regs) o) (end_is P I (end_frame b regs) o)))

  -- ---- steps

  -- A step that is not at an inserted instruction is a step of both programs; otherwise it is a step of the repaired
  -- program alone.
  record Goes (n : ℕ) (inserted : Bool) (old new new' : State) : Type 0 where
    size : ℕ
    left : cond inserted (suc size) size ≤ cond inserted n 2
    pair : Related P plan skip I Holds size (cond inserted old new) new'

  module _ (w : World) (f b k f' k' m : ℕ) (dest : Option (List ℕ)) (lvl lvl' : Option Level) (regs : Registers) (slots slots' : List Slot) (same : extents slots' ≡ extents slots) (clone : Bool) (tw : Twin P plan skip clone f f') (fs fs' : List Frame) (below : Below P plan skip clone lvl lvl' fs fs') (ls ls' : Lines) (ahead : Ahead ls ls') (c c' : Counts) (n : ℕ) (rest : List Instr) (e : drop k (body_at P f b) ≡ rest) where
    abbrev frame : Frame
    frame = record { function = f; block = b; place = k; registers = regs; mark = m; slots = slots; dest = dest; level = lvl }

    abbrev frame' : ℕ → Frame
    frame' j = record { function = f'; block = b; place = j; registers = regs; mark = m; slots = slots'; dest = dest; level = lvl' }

    abbrev body' : List Marked
    body' = marked_body P (clones_of P plan) (wanted_by plan skip) clone f b

    abbrev more : List Marked
    more = repaired_body (clones_of P plan) (wanted_by plan skip) clone f b k rest

    -- The state after a step, given the end and the code.
    abbrev step_of : Option End → List Instr → State
    step_of o is = carry_out I w frame fs ls c (counted (event_at I w fs (deed_of P I w (length fs) frame o is)) c) (deed_of P I w (length fs) frame o is)

    abbrev step_of' : Option End → List Instr → State
    step_of' o is = carry_out I w (frame' k') fs' ls' c' (counted (event_at I w fs' (deed_of Q I w (length fs') (frame' k') o is)) c') (deed_of Q I w (length fs') (frame' k') o is)

    on_rest : (o : Option End) (is : List Instr) → drop k (body_at P f b) ≡ is → drop k' body' ≡ repaired_body (clones_of P plan) (wanted_by plan skip) clone f b k is → Holds (level_list lvl (levels_of fs)) ls ls' → w.ending ≡ None → (reach : (j : ℕ) × (run P I j ≡ state w (frame ∷ fs) ls c)) →
        Goes n (is_inserted (repaired_body (clones_of P plan) (wanted_by plan skip) clone f b k is)) (state w (frame ∷ fs) ls c) (step_of o is) (step_of' o (instrs_of (repaired_body (clones_of P plan) (wanted_by plan skip) clone f b k is)))
    on_rest o [] here here' holds going reach =
        record { size = 2; left = omega arith; pair = after_block f b k f' k' m dest lvl lvl' regs slots slots' same clone tw fs fs' below ls ls' ahead holds w c _ c' _ (tied [] tw here here' same) o }
    on_rest o (i ∷ is) here here' holds going reach =
        record { size = 2; left = omega arith; pair = after_instr f b k f' k' m dest lvl lvl' regs slots slots' same clone tw fs fs' below ls ls' ahead holds is i (here, here') w c _ c' _ going reach }

    -- An inserted fence, and an inserted flush.
    on_quiet : (o : Option End) (pend : List Marked) (fenced : Bool) → Quiet pend fenced → Holds (level_list lvl (levels_of fs)) ls (fence_if fenced ls') → length pend ≤ n → drop k' body' ≡ pend ++ more → w.ending ≡ None → (reach : (j : ℕ) × (run P I j ≡ state w (frame ∷ fs) ls c)) →
        Goes n (is_inserted (pend ++ more)) (state w (frame ∷ fs) ls c) (step_of o rest) (step_of' o (instrs_of (pend ++ more)))
    unfolding carry_out perform instr_action
    on_quiet o [] fenced nothing holds le e' going reach = on_rest o rest e e' holds going reach
    on_quiet o (x ∷ pend) fenced fence holds le e' going reach = record {
      size = 0;
      left = le;
      pair = related (tied rest tw e (drop_next body' k' (the_fence, true) more e') same) (quiet nothing) below (ahead_more_fenced ls ls' ahead) holds (omega arith);
    }

    on_ready : (o : Option End) (pend : List Marked) (range : Option (ℕ × ℕ)) (fenced : Bool) → Ready P plan skip I w regs pend range fenced → Holds (level_list lvl (levels_of fs)) ls (pending_lines I (record { step = c'.steps; site = site_of (frame' k') }) range fenced ls') → length pend ≤ n → drop k' body' ≡ pend ++ more → w.ending ≡ None → (reach : (j : ℕ) × (run P I j ≡ state w (frame ∷ fs) ls c)) →
        Goes n (is_inserted (pend ++ more)) (state w (frame ∷ fs) ls c) (step_of o rest) (step_of' o (instrs_of (pend ++ more)))
    unfolding carry_out perform
    on_ready o pend range fenced (quiet q) holds le e' going reach = on_quiet o pend fenced q holds le e' going reach
    on_ready o (x ∷ pend) range fenced (flush i a size no_turn acts q) holds le e' going reach = record {
      size = length pend;
      left = le;
      pair =
          rw (no_turn, acts (length fs'))
          (related (tied rest tw e (drop_next body' k' (i, true) (pend ++ more) e') same) (quiet q) below (ahead_more_flushed I (record { step = c'.steps; site = site_of (frame' k') }) a size ls ls' ahead) holds (omega arith));
    }

    -- The step, for the code of the two programs at their places.
    on_both : (pend : List Marked) (range : Option (ℕ × ℕ)) (fenced : Bool) → Ready P plan skip I w regs pend range fenced → Holds (level_list lvl (levels_of fs)) ls (pending_lines I (record { step = c'.steps; site = site_of (frame' k') }) range fenced ls') → length pend ≤ n → drop k' body' ≡ pend ++ more → w.ending ≡ None → (reach : (j : ℕ) × (run P I j ≡ state w (frame ∷ fs) ls c)) →
        Goes n (is_inserted (drop k' (marked_at P plan skip f' b))) (state w (frame ∷ fs) ls c) (on_frames P I w ls c (frame ∷ fs)) (on_frames Q I w ls' c' (frame' k' ∷ fs'))
    unfolding on_frames
    on_both pend range fenced r holds le e' going reach =
        let code = ap (drop k') (body_twin P plan skip clone f f' tw b) ∙ drop-map (λ (x : Marked). x.0) k' body' ∙ ap instrs_of e' in
        subst (λ (ms : List Marked). Goes n (is_inserted (drop k' ms)) (state w (frame ∷ fs) ls c) (step_of (end_at P frame) (code_at P frame)) (step_of' (end_at Q (frame' k')) (code_at Q (frame' k')))) (sym (tw.marked b))
        (subst (λ (o : Option End). Goes n (is_inserted (drop k' body')) (state w (frame ∷ fs) ls c) (step_of (end_at P frame) (code_at P frame)) (step_of' o (code_at Q (frame' k')))) (sym (end_twin P plan skip clone f f' tw b))
        (subst (λ (is : List Instr). Goes n (is_inserted (drop k' body')) (state w (frame ∷ fs) ls c) (step_of (end_at P frame) (code_at P frame)) (step_of' (end_at P frame) is)) (sym code)
        (subst (λ (ms : List Marked). Goes n (is_inserted ms) (state w (frame ∷ fs) ls c) (step_of (end_at P frame) (code_at P frame)) (step_of' (end_at P frame) (instrs_of (pend ++ more)))) (sym e')
        (subst (λ (is : List Instr). Goes n (is_inserted (pend ++ more)) (state w (frame ∷ fs) ls c) (step_of (end_at P frame) is) (step_of' (end_at P frame) (instrs_of (pend ++ more)))) (sym e)
        (on_ready (end_at P frame) pend range fenced r holds le e' going reach)))))

  goes_none : (n : ℕ) (w : World) (f f' : Frame) (fs fs' : List Frame) (ls ls' : Lines) (c c' : Counts) (pend : List Marked) (range : Option (ℕ × ℕ)) (fenced clone : Bool) → Tied P plan skip clone pend f f' → Ready P plan skip I w f.registers pend range fenced → Below P plan skip clone f.level f'.level fs fs' → Ahead ls ls' → Holds (levels_of (f ∷ fs)) ls (pending_lines I (record { step = c'.steps; site = site_of f' }) range fenced ls') → length pend ≤ n → w.ending ≡ None → (j : ℕ) → run P I j ≡ state w (f ∷ fs) ls c →
      Goes n (is_inserted (drop f'.place (marked_at P plan skip f'.function f'.block))) (state w (f ∷ fs) ls c) (on_frames P I w ls c (f ∷ fs)) (on_frames Q I w ls' c' (f' ∷ fs'))
  goes_none n w f f' fs fs' ls ls' c c' pend range fenced clone (tied {f = g} {f' = g'} {b = b} {k = k} {k' = k'} {m = m} {dest = dest} {lvl = lvl} {lvl' = lvl'} {regs = regs} {slots = slots} {slots' = slots'} rest tw e e' same) r below a holds le going j z =
      on_both w g b k g' k' m dest lvl lvl' regs slots slots' same clone tw fs fs' below ls ls' a c c' n rest e pend range fenced r holds le e' going (j, z)

  goes_on : (n : ℕ) (o : Option Ending) (w : World) (f f' : Frame) (fs fs' : List Frame) (ls ls' : Lines) (c c' : Counts) (pend : List Marked) (range : Option (ℕ × ℕ)) (fenced clone : Bool) → Tied P plan skip clone pend f f' → Ready P plan skip I w f.registers pend range fenced → Below P plan skip clone f.level f'.level fs fs' → Ahead ls ls' → Holds (levels_of (f ∷ fs)) ls (pending_lines I (record { step = c'.steps; site = site_of f' }) range fenced ls') → length pend ≤ n → w.ending ≡ o → (j : ℕ) → run P I j ≡ state w (f ∷ fs) ls c →
      Goes n (inserted_on P plan skip o (f' ∷ fs')) (state w (f ∷ fs) ls c) (on_ending P I (state w (f ∷ fs) ls c) o) (on_ending Q I (state w (f' ∷ fs') ls' c') o)
  unfolding on_ending
  goes_on n (Some x) w f f' fs fs' ls ls' c c' pend range fenced clone t r below a holds le going j z = record { size = 2; left = omega arith; pair = related t r below a holds (ready_size r) }
  goes_on n None w f f' fs fs' ls ls' c c' pend range fenced clone t r below a holds le going j z = goes_none n w f f' fs fs' ls ls' c c' pend range fenced clone t r below a holds le going j z

  goes : (n j : ℕ) (s s' : State) → run P I j ≡ s → Related P plan skip I Holds n s s' → Goes n (stands_inserted P plan skip s') s (step P I s) (step Q I s')
  unfolding step
  goes n j s s' z (related {w = w} {f = f} {f' = f'} {fs = fs} {fs' = fs'} {ls = ls} {ls' = ls'} {c = c} {c' = c'} {pend = pend} {range = range} {fenced = fenced} {clone = clone} t r below a holds le) =
      goes_on n w.ending w f f' fs fs' ls ls' c c' pend range fenced clone t r below a holds le refl j z

  -- After n steps of the repaired program.
  pub record Follows (n : ℕ) : Type 0 where
    pub size : ℕ
    pub enough : n + size ≤ 3 * matched P plan skip I n
    pub pair : Related P plan skip I Holds size (run P I (matched P plan skip I n)) (run Q I n)

  run_cond : (b : Bool) (j : ℕ) → cond b (run P I j) (step P I (run P I j)) ≡ run P I (cond b j (suc j))
  unfolding run
  run_cond true j = refl
  run_cond false j = refl

  enough_next : (b : Bool) (n j size next : ℕ) → n + size ≤ 3 * j → cond b (suc next) next ≤ cond b size 2 → suc n + next ≤ 3 * cond b j (suc j)
  enough_next true n j size next h g = omega arith
  enough_next false n j size next h g = omega arith

  -- The first states.
  start_pair : (main : ℕ) → main < length P.functions → Related P plan skip I Holds 0
      (state (start_world I) (start_frame main ∷ []) (fresh_lines (length I.image / 64)) (record { steps = 0; entries = header_entries I }))
      (state (start_world I) (start_frame main ∷ []) (fresh_lines (length I.image / 64)) (record { steps = 0; entries = header_entries I }))
  start_pair main h = related (tied (body_at P main 0) (plain_twin P plan skip good main h) refl refl refl) (quiet nothing) bottom (ahead_start _) (keeps.start _) (omega arith)

  follows_start : Follows 0
  unfolding run matched
  follows_start = record {
    size = 0;
    enough = omega arith;
    pair = subst (λ (main : ℕ). Related P plan skip I Holds 0 (start P I) (state (start_world I) (start_frame main ∷ []) (fresh_lines (length I.image / 64)) (record { steps = 0; entries = header_entries I }))) (sym (same_main P plan skip good)) (start_pair (main_number P) (main_there P plan skip good));
  }

  follows_next : (n : ℕ) → Follows n → Follows (suc n)
  unfolding run matched
  follows_next n h =
      let b = stands_inserted P plan skip (run Q I n) in
      let j = matched P plan skip I n in
      let g = goes h.size j (run P I j) (run Q I n) refl h.pair in
      record {
        size = g.size;
        enough = enough_next b n j h.size g.size h.enough g.left;
        pair = subst (λ (s : State). Related P plan skip I Holds g.size s (step Q I (run Q I n))) (run_cond b j) g.pair;
      }

  pub follows : (n : ℕ) → Follows n
  follows zero = follows_start
  follows (suc n) = follows_next n (follows n)
