-- The shape of the stack: its blocks and marks are in order.
use Rattle.std.specs.Prelude.{◌≡◌, ℕ, suc, ◌+◌, ◌≤◌, List, [], ◌∷◌, length, Some, None}
use Rattle.hip_types.specs.Areas.{stack_start, stack_end}
use Rattle.hip_runs.specs.State.{Slot, Level, Frame, State, levels_of}
use Rattle.hip_runs.specs.declared.limits.TheConstants.{MOST_FRAMES}

-- Blocks, the newest first, are in order between two addresses.
abbrev pub lie_between : ℕ → ℕ → List Slot → Type 0
lie_between low high [] = low ≤ high
lie_between low high (s ∷ ss) = (s.addr + s.size ≤ high) × lie_between low s.addr ss

-- The blocks of each frame are between the mark at its call and the mark at the call of the frame above it.
abbrev pub lie_in_order : ℕ → List Frame → Type 0
lie_in_order mark [] = stack_start ≤ mark
lie_in_order mark (f ∷ fs) = lie_between f.mark mark f.slots × lie_in_order f.mark fs

-- Each frame except the bottom one has the call that made it, and the bottom one has none.
abbrev pub have_calls : List Frame → Type 0
have_calls [] = Unit {0}
have_calls (f ∷ []) = (f.level ≡ None)
have_calls (f ∷ (g ∷ fs)) = ((l : Level) × (f.level ≡ Some l)) × have_calls (g ∷ fs)

-- The frames under a stack mark: all blocks and marks are in order below the mark, and it is at most the stack's end;
-- there are at most 16,384 frames; and each frame except the bottom one has its call. (This project's own limits.)
pub record HasShape (mark : ℕ) (fs : List Frame) : Type 0 where
  pub in_order : lie_in_order mark fs
  pub within : mark ≤ stack_end
  pub few : length fs ≤ MOST_FRAMES
  pub calls : have_calls fs

-- The stack of a state has this shape, and the state has one call fewer than it has frames.
pub record StackIsShaped (s : State) : Type 0 where
  pub is : HasShape s.world.mark s.frames
  pub levels : suc (length (levels_of s.frames)) ≡ length s.frames
