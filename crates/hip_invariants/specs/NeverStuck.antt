-- A machine that never gets stuck: what its next step reads exists.
use Rattle.std.specs.Prelude.{◌≡◌, ℕ, All, List, [], ◌∷◌, Some, slice_get}
use Rattle.hip_tree.specs.declared.block.Block.{Block}
use Rattle.hip_tree.specs.declared.block.Edge.{Edge}
use Rattle.hip_tree.specs.declared.block.End.{End}
use Rattle.hip_tree.specs.declared.block.Phi.{Phi}
use Rattle.hip_tree.specs.declared.instr.Instr.{Instr}
use Rattle.hip_tree.specs.declared.program.Function.{Function}
use Rattle.hip_tree.specs.declared.program.Program.{Program}
use Rattle.hip_names.specs.Names.{IsAmong}
use Rattle.hip_sound.specs.Paths.{IsAssigned}
use Rattle.hip_sound.specs.Places.{edge_labels}
use Rattle.hip_sound.specs.Registers.{instr_uses, end_uses, end_labels, operand_registers, used_registers}
use Rattle.hip_sound.specs.declared.point.Point.TheVariants.{Before}
use Rattle.hip_runs.specs.declared.event.Ending.TheVariants.{Trap}
use Rattle.hip_runs.specs.declared.event.Event.TheVariants as events
use Rattle.hip_runs.specs.declared.event.TrapKind.TheVariants as traps
use Rattle.hip_runs.specs.declared.input.Input.{Input}
use Rattle.hip_runs.specs.Places.{block_at, label_of, code_at, end_at}
use Rattle.hip_runs.specs.State.{Frame}
use Rattle.hip_runs.specs.Step.{event, main_number, run}
use Rattle.hip_runs.specs.Laws.StepLaws.{IsTop}
use Rattle.hip_runs.specs.Validity.{IsValid}
use Rattle.hip_invariants.specs.FrameFacts.{frames_hold}
use Rattle.hip_invariants.specs.Reached.{assigned_names, StandsAtUnreachable, top_is_reached, caller_is_reached}
use Rattle.hip_invariants.specs.Types.{OperandsFit}

-- Each register that the frame's next step reads has a value.
pub record ReadsAssigned (P : Program) (f : Frame) : Type 0 where
  pub body : (i : Instr) (rest : List Instr) → code_at P f ≡ i ∷ rest →
      All (IsAmong (assigned_names f.registers)) (used_registers (instr_uses i))
  pub last : (e : End) → code_at P f ≡ [] → end_at P f ≡ Some e →
      All (IsAmong (assigned_names f.registers)) (used_registers (end_uses e))
  -- The same for the operands that the phis of a block have for control from the frame's block.
  pub phis : (c j m : ℕ) (to : Block) (p : Phi) (e : Edge) → code_at P f ≡ []
      → block_at P f.function c ≡ Some to →
      slice_get to.phis j ≡ Some p → slice_get p.edges m ≡ Some e →
      e.label ≡ label_of (block_at P f.function f.block) →
      All (IsAmong (assigned_names f.registers)) (operand_registers e.value)
  -- Each phi of a block that the end names has an operand for control from the frame's block.
  pub edges : (e : End) (c j : ℕ) (to : Block) (p : Phi) → end_at P f ≡ Some e
      → block_at P f.function c ≡ Some to →
      IsAmong (end_labels e) to.label → slice_get to.phis j ≡ Some p →
      IsAmong (edge_labels p.edges) (label_of (block_at P f.function f.block))

-- What is true after n steps. There is a frame. Each register that was assigned on the way to a frame's place has a
-- value, except the register that waits for a call's result, and no other register has a value than those that this way
-- assigns by the end of its block. The next step reads no other register, and only values that fit their types. It
-- traps as unreachable only at an `unreachable`. (The progress of a typed machine: Wright and Felleisen, 1994.)
pub record IsNeverStuck (P : Program) (I : Input) (n : ℕ) : Type 0 where
  pub frame : (f : Frame) × (fs : List Frame) × ((run P I n).frames ≡ f ∷ fs)
  pub frames : frames_hold (top_is_reached P) (caller_is_reached P) (main_number P) (run P I n).frames
  -- A register that each path to the place of the top frame assigns has a value.
  pub assigned : (f : Frame) (fs : List Frame) (fn : Function) (name : List ℕ) → IsTop (run P I n) f fs →
      slice_get P.functions f.function ≡ Some fn → IsAssigned fn f.block (Before f.place) name →
      IsAmong (assigned_names f.registers) name
  pub reads : (f : Frame) (fs : List Frame) → IsTop (run P I n) f fs → ReadsAssigned P f
  pub fit : IsValid P I → (f : Frame) (fs : List Frame) → IsTop (run P I n) f fs → OperandsFit P I f
  pub traps : (f : Frame) (fs : List Frame) → IsTop (run P I n) f fs →
      event P I (run P I n) ≡ events.End (Trap traps.Unreachable) → StandsAtUnreachable P f
