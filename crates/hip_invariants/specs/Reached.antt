-- How control has come to a frame's place: along a path through its function on which registers were assigned.
use Rattle.std.specs.Prelude.{◌≡◌, ◌⊎◌, ℕ, List, [], ◌∷◌, ◌++◌, map, Option, Some, None, slice_get}
use Rattle.hip_tree.specs.declared.block.Block.{Block}
use Rattle.hip_tree.specs.declared.block.End.TheVariants as ends
use Rattle.hip_tree.specs.declared.program.Function.{Function}
use Rattle.hip_tree.specs.declared.program.Program.{Program}
use Rattle.hip_names.specs.Names.{IsAmong}
use Rattle.hip_sound.specs.Paths.{IsPathTo, assigned_on}
use Rattle.hip_sound.specs.declared.point.Point.TheVariants.{Before, AtEnd}
use Rattle.hip_runs.specs.Places.{code_at, end_at}
use Rattle.hip_runs.specs.State.{Registers, Frame}

-- The names of the registers that have values.
abbrev pub assigned_names : Registers → List (List ℕ)
assigned_names rs = map (λ (r : List ℕ × ℕ). r.0) rs

-- A register has a value, or it waits for the result of a call.
abbrev pub has_or_awaits : Registers → Option (List ℕ) → List ℕ → Type 0
has_or_awaits rs awaited name = IsAmong (assigned_names rs) name ⊎ (awaited ≡ Some name)

-- A path from the entry block reaches the place before instruction k of block b of function g. Each register that is
-- assigned on that path has a value, except one that waits for the result of a call. (LLVM, "well-formedness": a
-- definition dominates its uses.) Only registers that the path assigns by the end of the block have a value or wait for
-- one.
pub record IsReached (P : Program) (awaited : Option (List ℕ)) (g b k : ℕ) (rs : Registers) : Type 0 where
  pub fn : Function
  pub here : slice_get P.functions g ≡ Some fn
  pub block : Block
  pub at : slice_get fn.blocks b ≡ Some block
  pub earlier : List ℕ
  pub leads : IsPathTo fn (earlier ++ b ∷ []) b
  pub among : (name : List ℕ) → IsAmong (assigned_on fn earlier b (Before k)) name → has_or_awaits rs awaited name
  pub only : (name : List ℕ) → has_or_awaits rs awaited name → IsAmong (assigned_on fn earlier b AtEnd) name

-- The frame is at the end of a block, and that end is `unreachable`.
abbrev pub StandsAtUnreachable : Program → Frame → Type 0
StandsAtUnreachable P f = (code_at P f ≡ []) × (end_at P f ≡ Some ends.Unreachable)

module _ (P : Program) where
  -- The place of the top frame is reached.
  abbrev pub top_is_reached : Frame → Type 0
  top_is_reached f = IsReached P None f.function f.block f.place f.registers

  -- The place of a frame that waits for the result of a call is reached. The result goes into a register.
  abbrev pub caller_is_reached : ℕ → Option (List ℕ) → Frame → Type 0
  caller_is_reached h dest f = IsReached P dest f.function f.block f.place f.registers
