-- No store whose address has a level other than Free lies in the region, in any run.
use Rattle.std.proofs.Common.{◌≡◌, ℕ, zero, suc, ◌<◌, Bool, true, false, cond, nat_le, List, [], ◌∷◌, length, drop, Option, Some, None, slice_get, refl, sym, ap, ◌∙◌, subst, arith, leb-true}
use Rattle.std.specs.Prelude.{is_some}
use Rattle.std.proofs.lemmas.Bool.{and_parts, both_ways, false_from_ne_true}
use Rattle.hip_tree.specs.Sites.{instr_of}
use Rattle.hip_tree.specs.declared.instr.Instr.{Instr}
use Rattle.hip_tree.specs.declared.instr.Instr.TheVariants.{Binary, Compare, Select, Cast, Alloca, Load, Store, Gep, Call}
use Rattle.hip_tree.specs.declared.instr.Operand.{Operand}
use Rattle.hip_tree.specs.declared.instr.Operand.TheVariants.{Reg, Fixed}
use Rattle.hip_tree.specs.declared.program.Program.{Program}
use Rattle.hip_tree.specs.declared.site.Site.{Site}
use Rattle.hip_types.specs.Bytes.{little_endian}
use Rattle.hip_sound.specs.Sound.{IsSound}
use Rattle.hip_runs.specs.declared.event.Ending.{Ending}
use Rattle.hip_runs.specs.declared.event.Ending.TheVariants.{Cut}
use Rattle.hip_runs.specs.declared.event.Event.TheVariants as events
use Rattle.hip_runs.specs.declared.input.Input.{Input}
use Rattle.hip_runs.specs.Actions.{Action, Stores, in_region, instr_action, deed_of}
use Rattle.hip_runs.specs.Operands.{value_of}
use Rattle.hip_runs.specs.Places.{body_at, code_at, end_at}
use Rattle.hip_runs.specs.State.{Frame, site_of}
use Rattle.hip_runs.specs.Step.{is_cut, event_of, event_at, event_on_frames, event_on_ending, event, run}
use Rattle.hip_runs.specs.Validity.{IsValid}
use Rattle.hip_runs.specs.Laws.HistoryLaws.{instr_at_place}
use Rattle.hip_runs.specs.Laws.Members.{get_drop}
use Rattle.hip_runs.specs.Laws.StepLaws.{IsTop}
use Rattle.hip_invariants.specs.PointerLevels.{PointerLevel}
use Rattle.hip_invariants.specs.Laws.InstrActions.{instr_cases, of_instr_action}
use Rattle.hip_repairs.specs.StayOutside.{stores_in_region, StayOutside}
use Rattle.hip_vol.specs.Bounds.{Register, Assignment, bound_in}
use Rattle.hip_vol.specs.Closed.{is_level, IsClosedUnder}
use Rattle.hip_vol.specs.LowStores.{stores_low}
use Rattle.hip_vol.specs.Rules.{operand_bound, level_rules}
use Rattle.hip_vol.proofs.KnownLevels.{const_is_level}
use Rattle.hip_vol.proofs.LevelBounds.{low_address}
use Rattle.hip_vol.proofs.LevelOrder.{past_is_level}

module _ (P : Program) (A : Assignment) (sound : IsSound P) (closed : IsClosedUnder (level_rules P) A) where
  operand_is_level : (g : ℕ) (o : Operand) → is_level (bound_in A (operand_bound P g o))
  operand_is_level g (Reg name) = past_is_level (A (Register g name)) 0 (closed.levels (Register g name))
  operand_is_level g (Fixed c) = const_is_level P.globals c

  module _ (I : Input) (valid : IsValid P I) where
    below_region : (a n : ℕ) → a < I.base → in_region I a n ≡ false
    below_region a n h = false_from_ne_true _ (λ t. let from = leb-true I.base a (and_parts (nat_le I.base a) _ t).0 in omega (arith, from, h))

    store_quiet : (fs : List Frame) (a : ℕ) (bytes : List ℕ) → a < I.base → ¬ stores_in_region (event_of I fs (Stores a bytes))
    store_quiet fs a bytes h = go (in_region I a (length bytes)) (below_region a (length bytes) h)
      where
        go : (b : Bool) → b ≡ false → ¬ stores_in_region (cond b (events.Store a (little_endian bytes) (length bytes)) events.Quiet)
        go true e = cc
        go false e = λ t. t

    module _ (n : ℕ) (f : Frame) (fs : List Frame) (top : IsTop (run P I n) f fs) where
      address_low : (addr : Operand) → is_some (bound_in A (operand_bound P f.function addr)) ≡ true → value_of P.globals I.base f.registers addr < I.base
      address_low addr e = go (bound_in A (operand_bound P f.function addr)) refl (operand_is_level f.function addr) e
        where
          go : (a : PointerLevel) → bound_in A (operand_bound P f.function addr) ≡ a → is_level a → is_some a ≡ true → value_of P.globals I.base f.registers addr < I.base
          go None q small t = cc
          go (Some t) q small e = low_address P sound I A closed valid n f fs addr t top q small

      abbrev IsStill : Action → Type 0
      IsStill x = ¬ stores_in_region (event_of I fs x)

      cases : (i : Instr) → stores_low P A f.function (Some i) ≡ true → instr_cases P I (run P I n).world (length fs) f.registers IsStill i
      cases (Store ty value addr align) e = store_quiet fs _ _ (address_low addr e)
      cases (Binary dest op flags width a b) e = cc
      cases (Compare dest pred ty a b) e = cc
      cases (Select dest test ty a b) e = cc
      cases (Cast dest op from a to) e = cc
      cases (Alloca dest ty align) e = cc
      cases (Load dest ty addr align) e = cc
      cases (Gep dest inbounds ty base indices) e = cc
      cases (Call dest ret callee args) e = cc

      instr_quiet : (i : Instr) → stores_low P A f.function (Some i) ≡ true → IsStill (instr_action P I (run P I n).world (length fs) f.registers i)
      instr_quiet i e = of_instr_action P I (run P I n).world (length fs) f.registers IsStill (λ kind other. λ t. t) i (cases i e)

      get_end : {X : Type 0} (xs : List X) (k : ℕ) → drop k xs ≡ [] → slice_get xs k ≡ None
      get_end [] zero e = refl
      get_end [] (suc k) e = refl
      get_end (x ∷ xs) zero e = cc
      get_end (x ∷ xs) (suc k) e = get_end xs k e

      code_quiet : (code : List Instr) → code_at P f ≡ code → stores_low P A f.function (instr_of P (site_of f)) ≡ true →
          ¬ stores_in_region (event_at I (run P I n).world fs (deed_of P I (run P I n).world (length fs) f (end_at P f) code))
      code_quiet [] e at =
          let none : instr_of P (site_of f) ≡ None = instr_at_place P f.function f.block f.place ∙ get_end (body_at P f.function f.block) f.place e in
          absurd (both_ways _ (ap (stores_low P A f.function) none) at)
      code_quiet (i ∷ rest) e at = go (is_cut I (run P I n).world (deed_of P I (run P I n).world (length fs) f (end_at P f) (i ∷ rest)))
        where
          there : instr_of P (site_of f) ≡ Some i
          there = instr_at_place P f.function f.block f.place ∙ get_drop (body_at P f.function f.block) f.place i rest e

          go : (b : Bool) → ¬ stores_in_region (cond b (events.End Cut) (event_of I fs (instr_action P I (run P I n).world (length fs) f.registers i)))
          go true = λ t. t
          go false = instr_quiet i (sym (ap (stores_low P A f.function) there) ∙ at)

    step_quiet : (n : ℕ) (f : Frame) (fs : List Frame) → (run P I n).frames ≡ f ∷ fs → stores_low P A f.function (instr_of P (site_of f)) ≡ true → ¬ stores_in_region (event P I (run P I n))
    unfolding event
    step_quiet n f fs e at = go (run P I n).world.ending refl
      where
        go : (o : Option Ending) → (run P I n).world.ending ≡ o → ¬ stores_in_region (event_on_ending P I (run P I n) o)
        go (Some x) q = λ t. t
        go None q = subst (λ (gs : List Frame). ¬ stores_in_region (event_on_frames P I (run P I n).world gs)) (sym e) (code_quiet n f fs (record { going = q; frames = e }) (code_at P f) refl at)

-- The stores that are low by a closed assignment stay outside the region.
pub low_quiet : (P : Program) (A : Assignment) → IsSound P → IsClosedUnder (level_rules P) A → StayOutside P (λ (s : Site). stores_low P A s.function (instr_of P s))
low_quiet P A sound closed I valid n f fs e at = step_quiet P A sound closed I valid n f fs e at
