-- The blocks on the stack that the code keeps: those of all frames that have a byte, the oldest first.
use Rattle.std.specs.Prelude.{◌≡◌, ℕ, List, [], ◌∷◌, ◌++◌, length, reverse}
use Rattle.hip_runs.specs.State.{Slot, Frame}
use Rattle.hip_objects.specs.Blocks.{nonempty}

-- The blocks of these frames that have a byte: the frames are given from the top one down, the blocks of the bottom
-- frame come first, and of each frame the oldest one first.
abbrev pub blocks_of : List Frame → List Slot
blocks_of [] = []
blocks_of (f ∷ fs) = blocks_of fs ++ nonempty (reverse f.slots)

-- The blocks that have a byte: those of the frames below, as many as the count, and then the top frame's own.
pub record HoldsBlocks (blocks : List Slot) (count : ℕ) (own : List Slot) (fs : List Frame) : Type 0 where
  pub are : blocks ≡ blocks_of fs ++ nonempty (reverse own)
  pub below : count ≡ length (blocks_of fs)
