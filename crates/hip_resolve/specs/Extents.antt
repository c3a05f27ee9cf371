-- The extents of the blocks of a function, as the code finds them.
use Rattle.std.specs.Prelude.{ℕ, suc, ◌+◌, ◌<◌, ◌≤◌, ◌≡◌, List, length, Some, slice_index, take}
use Rattle.std.specs.List.{flat_map}
use Rattle.hip_tree.specs.declared.program.Function.{Function}
use Rattle.hip_names.specs.Names.{IsAmong, number_of}
use Rattle.hip_sound.specs.Paths.{BlockLeadsTo}
use Rattle.hip_sound.specs.Registers.{block_registers, parameter_registers}
use Rattle.hip_code.specs.declared.op.Control.TheVariants as controls
use Rattle.hip_code.specs.declared.op.Op.{Op}
use Rattle.hip_code.specs.declared.op.Op.TheVariants as ops

-- How many slots the parameters of a function and the registers of its first k blocks take.
abbrev pub slots_to : Function → ℕ → ℕ
slots_to fn k = length (parameter_registers fn) + length (flat_map block_registers (take k fn.blocks))

-- No label of the second list is the label of a block below a number.
pub record LeadsNoLower (labels named : List (List ℕ)) (lowest : ℕ) : Type 0 where
  pub at : (label : List ℕ) (c : ℕ) → IsAmong named label → number_of labels label ≡ Some c → lowest ≤ c

-- The extent of a block is at least the number of slots up to the block's end, at most the number of all slots of the
-- function, and at most the extent of each block to which the block leads.
pub record AreExtents (fn : Function) (extents : List ℕ) : Type 0 where
  pub as_long : length extents ≡ length fn.blocks
  pub own : (b : ℕ) → b < length fn.blocks → slots_to fn (suc b) ≤ slice_index extents b
  pub few : (b : ℕ) → b < length fn.blocks → slice_index extents b ≤ slots_to fn (length fn.blocks)
  pub rise : (b c : ℕ) → BlockLeadsTo fn b c → slice_index extents b ≤ slice_index extents c

-- The op with that number of slots that a call keeps; an op of another kind stays as it is.
abbrev pub with_frame : ℕ → Op → Op
with_frame frame (ops.Control (controls.Call call)) = ops.Control (controls.Call (record call { frame = frame }))
with_frame frame o = o
