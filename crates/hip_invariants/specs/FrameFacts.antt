-- What it means that a fact holds for all frames.
use Rattle.std.specs.Prelude.{◌≡◌, ℕ, List, [], ◌∷◌, Option}
use Rattle.hip_runs.specs.Operands.{look_up}
use Rattle.hip_runs.specs.State.{Frame}

-- A fact of a function, a register and its value holds of each register of each frame. A register that has no value yet
-- reads as 0. (This project's own.)
abbrev pub each_register : (ℕ → List ℕ → ℕ → Type 0) → List Frame → Type 0
each_register Fact [] = Unit {0}
each_register Fact (f ∷ fs) =
    ((name : List ℕ) → Fact f.function name (look_up f.registers name)) × each_register Fact fs

-- The fact `Top` is about the top frame. The fact `Below` is about a frame that waits for the result of a called
-- function, which goes into a register.
module _ (Top : Frame → Type 0) (Below : ℕ → Option (List ℕ) → Frame → Type 0) where
  -- The fact `Below` holds for each frame below a frame of function `h`, whose result goes into register `dest`. The
  -- bottom frame is a frame of function `main`.
  abbrev pub below_hold : ℕ → ℕ → Option (List ℕ) → List Frame → Type 0
  below_hold main h dest [] = (h ≡ main)
  below_hold main h dest (g ∷ fs) = Below h dest g × below_hold main g.function g.dest fs

  -- The fact `Top` holds for the top frame, and `Below` holds for each frame below it.
  abbrev pub frames_hold : ℕ → List Frame → Type 0
  frames_hold main [] = Unit {0}
  frames_hold main (f ∷ fs) = Top f × below_hold main f.function f.dest fs
