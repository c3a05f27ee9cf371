-- How many slots a frame keeps while a function that it calls runs.
use Rattle.std.specs.Prelude.{ℕ, ◌<◌, ◌≤◌, ◌≡◌, List, [], ◌∷◌, ◌++◌, length, Some, slice_get}
use Rattle.hip_tree.specs.declared.program.Function.{Function}
use Rattle.hip_tree.specs.declared.program.Program.{Program}
use Rattle.hip_names.specs.Names.{IsAmong, number_of}
use Rattle.hip_sound.specs.Paths.{IsPathTo, assigned_on}
use Rattle.hip_sound.specs.declared.point.Point.TheVariants.{AtEnd}
use Rattle.hip_code.specs.Frames.{names_at}
use Rattle.hip_code.specs.declared.op.Control.TheVariants as controls
use Rattle.hip_code.specs.declared.op.Op.{Op}
use Rattle.hip_code.specs.declared.op.Op.TheVariants as ops

-- A frame in block b may have a value in the register: a path from the entry block to b assigns it by the end of b.
pub record MayHaveValue (fn : Function) (b : ℕ) (name : List ℕ) : Type 0 where
  pub earlier : List ℕ
  pub leads : IsPathTo fn (earlier ++ b ∷ []) b
  pub assigned : IsAmong (assigned_on fn earlier b AtEnd) name

-- The first `extent` slots of function f include each one of a register that may have a value in block b. (The frame
-- keeps them during a call. A callee may overwrite the others, since every path assigns such a register before it is
-- read.)
pub record IsExtent (P : Program) (f b extent : ℕ) : Type 0 where
  pub within : extent ≤ length (names_at P f)
  pub covers : (fn : Function) (name : List ℕ) (slot : ℕ) → slice_get P.functions f ≡ Some fn
      → MayHaveValue fn b name → number_of (names_at P f) name ≡ Some slot → slot < extent

-- If the op is a call, the slots that it keeps of its caller include those of the registers that may have a value.
abbrev pub keeps_extent : Program → ℕ → ℕ → Op → Type 0
keeps_extent P f b (ops.Control (controls.Call call)) = IsExtent P f b call.frame
keeps_extent P f b _ = Unit {0}
