-- The stores whose address is a register assigned by `alloca`, or a volatile global itself, never write to the region.
use Rattle.std.proofs.Common.{◌≡◌, ℕ, zero, suc, ◌%◌, ◌<◌, Bool, true, false, cond, nat_le, nat_eq, List, [], ◌∷◌, length, drop, Option, Some, None, slice_get, refl, sym, ap, ◌∙◌, subst, arith, leb-true}
use Rattle.std.proofs.lemmas.Bool.{and_parts, both_ways, false_from_ne_true}
use Rattle.hip_tree.specs.Sites.{instr_of}
use Rattle.hip_tree.specs.declared.instr.Instr.{Instr}
use Rattle.hip_tree.specs.declared.instr.Instr.TheVariants.{Binary, Compare, Select, Cast, Alloca, Load, Store, Gep, Call}
use Rattle.hip_tree.specs.declared.instr.Operand.{Operand}
use Rattle.hip_tree.specs.declared.instr.Operand.TheVariants.{Reg, Fixed}
use Rattle.hip_tree.specs.declared.program.Program.{Program}
use Rattle.hip_types.specs.Bytes.{little_endian}
use Rattle.hip_sound.specs.Rules.{PassesVerifier}
use Rattle.hip_runs.specs.declared.event.Ending.{Ending}
use Rattle.hip_runs.specs.declared.event.Ending.TheVariants.{Cut}
use Rattle.hip_runs.specs.declared.event.Event.TheVariants as events
use Rattle.hip_runs.specs.declared.event.TrapKind.TheVariants as traps
use Rattle.hip_runs.specs.declared.input.Input.{Input}
use Rattle.hip_runs.specs.Actions.{Action, Traps, Stores, in_region, are_valid, accessed, instr_action, deed_of}
use Rattle.hip_runs.specs.Operands.{value_of}
use Rattle.hip_runs.specs.Places.{blocks_of, body_at, code_at, end_at}
use Rattle.hip_runs.specs.State.{Frame, World, State, site_of}
use Rattle.hip_runs.specs.Step.{is_cut, event_of, event_at, event_on_frames, event_on_ending, event, run}
use Rattle.hip_runs.specs.Validity.{IsValid}
use Rattle.hip_invariants.specs.Laws.Registers.Facts.{values_in_frames}
use Rattle.hip_repairs.specs.Direct.{is_outside, stores_outside, direct}
use Rattle.hip_repairs.specs.StayOutside.{stores_in_region, StayOutside}
use Rattle.hip_runs.specs.Laws.Members.{get_drop}
use Rattle.hip_repairs.proofs.quiet.OutsideAddresses.{constant_low}
use Rattle.hip_runs.specs.Laws.HistoryLaws.{instr_at_place}
use Rattle.hip_repairs.proofs.quiet.StackRegisters.{AreLow, IsLow, Any, run_low, are_low}

module _ (P : Program) (sound : PassesVerifier P) (I : Input) where
  -- ---- a store

  module _ (valid : IsValid P I) where
    -- Such an address is below the base.
    outside_low : (f : Frame) (addr : Operand) → AreLow (blocks_of P f.function) f.registers → is_outside P (blocks_of P f.function) addr ≡ true → value_of P.globals I.base f.registers addr < I.base
    outside_low f (Reg name) low e = omega (arith, low name e, valid.base.low)
    outside_low f (Fixed c) low e = omega (arith, constant_low P sound I.base c e, valid.base.low)

    below_region : (a n : ℕ) → a < I.base → in_region I a n ≡ false
    below_region a n h = false_from_ne_true _ (λ t. let from = leb-true I.base a (and_parts (nat_le I.base a) _ t).0 in omega (arith, from, h))

    store_quiet : (fs : List Frame) (a : ℕ) (bytes : List ℕ) → a < I.base → ¬ stores_in_region (event_of I fs (Stores a bytes))
    store_quiet fs a bytes h = go (in_region I a (length bytes)) (below_region a (length bytes) h)
      where
        go : (b : Bool) → b ≡ false → ¬ stores_in_region (cond b (events.Store a (little_endian bytes) (length bytes)) events.Quiet)
        go true e = cc
        go false e = λ t. t

    quiet_cond : (fs : List Frame) (b : Bool) (x y : Action) → ¬ stores_in_region (event_of I fs x) → ¬ stores_in_region (event_of I fs y) → ¬ stores_in_region (event_of I fs (cond b x y))
    quiet_cond fs true x y p q = p
    quiet_cond fs false x y p q = q

    access_quiet : (w : World) (fs : List Frame) (a n align : ℕ) (x : Action) → ¬ stores_in_region (event_of I fs x) → ¬ stores_in_region (event_of I fs (accessed P I w a n align x))
    unfolding accessed
    access_quiet w fs a n align x p = quiet_cond fs (nat_eq (a % align) 0) _ (Traps traps.Misaligned) (quiet_cond fs (are_valid P I w a n) x (Traps traps.Address) p (λ t. t)) (λ t. t)

    instr_quiet : (w : World) (f : Frame) (fs : List Frame) (i : Instr) → AreLow (blocks_of P f.function) f.registers → stores_outside P (blocks_of P f.function) (Some i) ≡ true → ¬ stores_in_region (event_of I fs (instr_action P I w (length fs) f.registers i))
    unfolding instr_action
    instr_quiet w f fs (Store ty value addr align) low e = access_quiet w fs _ _ _ _ (store_quiet fs _ _ (outside_low f addr low e))
    instr_quiet w f fs (Binary dest op flags width a b) low e = cc
    instr_quiet w f fs (Compare dest pred ty a b) low e = cc
    instr_quiet w f fs (Select dest test ty a b) low e = cc
    instr_quiet w f fs (Cast dest op from a to) low e = cc
    instr_quiet w f fs (Alloca dest ty align) low e = cc
    instr_quiet w f fs (Load dest ty addr align) low e = cc
    instr_quiet w f fs (Gep dest inbounds ty base indices) low e = cc
    instr_quiet w f fs (Call dest ret callee args) low e = cc

    get_end : {A : Type 0} (xs : List A) (k : ℕ) → drop k xs ≡ [] → slice_get xs k ≡ None
    get_end [] zero e = refl
    get_end [] (suc k) e = refl
    get_end (x ∷ xs) zero e = cc
    get_end (x ∷ xs) (suc k) e = get_end xs k e

    code_quiet : (w : World) (f : Frame) (fs : List Frame) (code : List Instr) → code_at P f ≡ code → AreLow (blocks_of P f.function) f.registers → direct P (site_of f) ≡ true →
        ¬ stores_in_region (event_at I w fs (deed_of P I w (length fs) f (end_at P f) code))
    code_quiet w f fs [] e low at =
        let none : instr_of P (site_of f) ≡ None = instr_at_place P f.function f.block f.place ∙ get_end (body_at P f.function f.block) f.place e in
        absurd (both_ways _ (ap (stores_outside P (blocks_of P f.function)) none) at)
    code_quiet w f fs (i ∷ rest) e low at = go (is_cut I w (deed_of P I w (length fs) f (end_at P f) (i ∷ rest)))
      where
        there : instr_of P (site_of f) ≡ Some i
        there = instr_at_place P f.function f.block f.place ∙ get_drop (body_at P f.function f.block) f.place i rest e

        outside : stores_outside P (blocks_of P f.function) (Some i) ≡ true
        outside = sym (ap (stores_outside P (blocks_of P f.function)) there) ∙ at

        go : (b : Bool) → ¬ stores_in_region (cond b (events.End Cut) (event_of I fs (instr_action P I w (length fs) f.registers i)))
        go true = λ t. t
        go false = instr_quiet w f fs i low outside

    step_quiet : (s : State) (f : Frame) (fs : List Frame) → values_in_frames (IsLow P) Any s.frames → s.frames ≡ f ∷ fs → direct P (site_of f) ≡ true → ¬ stores_in_region (event P I s)
    unfolding event
    step_quiet s f fs low e at = go s.world.ending
      where
        here : values_in_frames (IsLow P) Any (f ∷ fs)
        here = subst (values_in_frames (IsLow P) Any) e low

        go : (o : Option Ending) → ¬ stores_in_region (event_on_ending P I s o)
        go (Some x) = λ t. t
        go None = subst (λ (gs : List Frame). ¬ stores_in_region (event_on_frames P I s.world gs)) (sym e) (code_quiet s.world f fs (code_at P f) refl (are_low P f.function f.registers here.0) at)

pub quiet_stores : (P : Program) → PassesVerifier P → StayOutside P (direct P)
quiet_stores P sound I valid n f fs e at = step_quiet P sound I valid (run P I n) f fs (run_low P sound I n) e at
