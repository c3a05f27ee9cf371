-- Each value that the next step reads fits the type that its place states, so cutting it to its width does not change
-- it.
use Rattle.std.proofs.Common.{◌≡◌, ℕ, ◌<◌, List, [], ◌∷◌, Option, Some, None, slice_get, refl, sym, ap, ap₂, ◌∙◌, subst}
use Rattle.std.specs.Prelude.{All}
use Rattle.std.proofs.Math.Nat.{mod-eq_of_lt}
use Rattle.std.proofs.lemmas.List.Elements.{All-weaker}
use Rattle.std.proofs.lemmas.Option.{same_Some}
use Rattle.hip_types.specs.Numbers.{bits, modulus, signed, wrapped}
use Rattle.hip_types.specs.declared.number.Scalar.{Scalar}
use Rattle.hip_types.specs.declared.number.Scalar.TheVariants.{Int}
use Rattle.hip_types.specs.declared.number.Width.{Width}
use Rattle.hip_types.specs.declared.number.Width.TheVariants.{W32, W64}
use Rattle.hip_tree.specs.declared.block.Block.{Block}
use Rattle.hip_tree.specs.declared.block.End.{End}
use Rattle.hip_tree.specs.declared.block.End.TheVariants as ends
use Rattle.hip_tree.specs.declared.instr.Arg.{Arg}
use Rattle.hip_tree.specs.declared.instr.Instr.{Instr}
use Rattle.hip_tree.specs.declared.program.Function.{Function}
use Rattle.hip_tree.specs.declared.program.Program.{Program}
use Rattle.hip_num.specs.Comparisons.{holds}
use Rattle.hip_sound.specs.Laws.GivenLaws.{sound-operands}
use Rattle.hip_sound.specs.Registers.{Use, instr_uses, end_uses, phi_uses}
use Rattle.hip_sound.specs.Sound.{IsSound, IsTyped, EndItem, OwnTypesAgree}
use Rattle.hip_runs.specs.declared.input.Input.{Input}
use Rattle.hip_runs.specs.Actions.{returned}
use Rattle.hip_types.specs.Scalars.{width_of}
use Rattle.hip_runs.specs.Places.{block_at, body_of, end_of, body_at, end_at}
use Rattle.hip_runs.specs.State.{Frame}
use Rattle.hip_runs.specs.Step.{numbered_main, main_number, run}
use Rattle.hip_runs.specs.Laws.StepLaws.{IsTop}
use Rattle.hip_runs.specs.Validity.{IsValid}
use Rattle.hip_invariants.specs.FrameFacts.{frames_hold}
use Rattle.hip_invariants.specs.Laws.InstrFacts.{fact_holds}
use Rattle.hip_runs.specs.Laws.Members.{get_drop}
use Rattle.hip_invariants.specs.Laws.Places.{block_there}
use Rattle.hip_invariants.specs.Laws.Registers.Facts.{ValuesHold, values_in_frames}
use Rattle.hip_invariants.specs.Reached.{top_is_reached, caller_is_reached}
use Rattle.hip_invariants.specs.Types.{FitsType}
use Rattle.hip_invariants.specs.Laws.FittingValues.{operand_fits, result_fits, types_kept}
use Rattle.hip_invariants.specs.Laws.ReachedAlways.{all_reached}
use Rattle.hip_invariants.specs.Types.{AreUncut, FitsType, FitsResult, fits_type, OperandFits, OperandsFit}

-- Cutting a value that fits its width does not change it.
cut_is_same : (w : Width) (v : ℕ) → v < modulus w → (bits w v).value ≡ v
cut_is_same w v h = mod-eq_of_lt h

pub are_uncut : AreUncut
are_uncut = record {
  compared = λ pred w a b h k. ap₂ (holds pred w) (cut_is_same w a h) (cut_is_same w b k);
  index = λ ty v h. ap (λ n. wrapped W64 (signed (width_of ty) n)) (cut_is_same (width_of ty) v h);
  code = λ v h. ap (signed W32) (cut_is_same W32 v h);
}

module _ (P : Program) (s : IsSound P) (I : Input) (valid : IsValid P I) where
  top_holds : (n : ℕ) (f : Frame) (fs : List Frame) → IsTop (run P I n) f fs
      → ValuesHold (FitsType P) (FitsResult P) f.function f.registers
  top_holds n f fs t =
      (let all : values_in_frames (FitsType P) (FitsResult P) (f ∷ fs) =
      subst (values_in_frames (FitsType P) (FitsResult P)) t.frames
      (fact_holds (FitsType P) (FitsResult P) P I (types_kept P s I valid) n) in all).0

  module _ (f : Frame) (h : ValuesHold (FitsType P) (FitsResult P) f.function f.registers) where
    uses_fit : (fn : Function) → slice_get P.functions f.function ≡ Some fn → (us : List Use)
        → All (IsTyped fn) us → All (OperandFits P I f.registers) us
    uses_fit fn here us typed = All-weaker (IsTyped fn) (OperandFits P I f.registers)
        (λ u t. operand_fits P s I valid f.function fn here f.registers h u.operand u.ty t) us typed

    operands_fit : OperandsFit P I f
    operands_fit = record {
      body = λ i rest e. body (block_at P f.function f.block) refl i
          (get_drop (body_at P f.function f.block) f.place i rest e);
      last = λ e q. last (block_at P f.function f.block) refl e q;
      phis = λ c j to p there e. let at = block_there P f.function c to there in
          uses_fit at.0 at.1.function (phi_uses p) ((sound-operands P s f.function c at.0 to at.1).phis j p e);
    }
      where
        body : (o : Option Block) → block_at P f.function f.block ≡ o → (i : Instr)
            → slice_get (body_of o) f.place ≡ Some i → All (OperandFits P I f.registers) (instr_uses i)
        body None q i e = cc
        body (Some block) q i e = let at = block_there P f.function f.block block q in
            uses_fit at.0 at.1.function (instr_uses i)
            ((sound-operands P s f.function f.block at.0 block at.1).body f.place i e)

        last : (o : Option Block) → block_at P f.function f.block ≡ o → (e : End) → end_of o ≡ Some e
            → All (OperandFits P I f.registers) (end_uses e)
        last None q e r = cc
        last (Some block) q e r =
            let at = block_there P f.function f.block block q in
            subst (λ (x : End). All (OperandFits P I f.registers) (end_uses x)) (same_Some block.end e r)
            (uses_fit at.0 at.1.function (end_uses block.end)
            (sound-operands P s f.function f.block at.0 block at.1).last)

  -- The operands fit at each step.
  pub operands_fit_at : (n : ℕ) (f : Frame) (fs : List Frame) → IsTop (run P I n) f fs → OperandsFit P I f
  operands_fit_at n f fs t = operands_fit f (top_holds n f fs t)

  -- What the bottom frame returns is below 2^32.
  pub stop_fits : (n : ℕ) (f : Frame) (arg : Option Arg) → IsTop (run P I n) f []
      → end_at P f ≡ Some (ends.Ret arg) → returned P.globals I.base f.registers arg < modulus W32
  stop_fits n f arg t e = go (block_at P f.function f.block) refl e
    where
      bottom : f.function ≡ s.main.number
      bottom =
          (let all : frames_hold (top_is_reached P) (caller_is_reached P) (main_number P) (f ∷ []) =
          subst (frames_hold (top_is_reached P) (caller_is_reached P) (main_number P)) t.frames
          (all_reached P s I n) in all).1
          ∙ (let is : main_number P ≡ s.main.number = ap numbered_main s.main.named in is)

      go : (o : Option Block) → block_at P f.function f.block ≡ o → end_of o ≡ Some (ends.Ret arg)
          → returned P.globals I.base f.registers arg < modulus W32
      go None q r = cc
      go (Some block) q r =
          let at = block_there P f.function f.block block q in
          let is : block.end ≡ ends.Ret arg = same_Some block.end (ends.Ret arg) r in
          let same : at.0 ≡ s.main.function = same_Some at.0 s.main.function
          (sym at.1.function ∙ ap (slice_get P.functions) bottom ∙ s.main.here) in
          let answers : at.0.ret ≡ Some (Int W32) = ap (λ (g : Function). g.ret) same ∙ s.main.result in
          let typed = subst (λ (x : End). All (IsTyped at.0) (end_uses x)) is
          (sound-operands P s f.function f.block at.0 block at.1).last in
          let agrees = subst (λ (x : End). OwnTypesAgree P at.0 (EndItem x)) is
          (s.types_agree f.function f.block at.0 block at.1).last.own in
          subst (λ (r : Option Scalar). fits_type (Some r) (returned P.globals I.base f.registers arg)) answers
          (result_fits P s I valid f.function at.0 at.1.function f.registers (top_holds n f [] t) arg typed agrees)
