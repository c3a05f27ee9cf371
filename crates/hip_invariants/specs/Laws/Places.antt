-- What is at a frame's place, in its block and its function.
use Rattle.std.proofs.Common.{◌≡◌, ℕ, true, List, [], ◌∷◌, Option, Some, None, slice_get, refl}
use Rattle.hip_tree.specs.declared.block.Block.{Block}
use Rattle.hip_tree.specs.declared.program.Function.{Function}
use Rattle.hip_tree.specs.declared.program.Program.{Program}
use Rattle.hip_sound.specs.Sound.{IsBlockAt}
use Rattle.hip_runs.specs.Places.{blocks_in, block_at}
use Rattle.hip_runs.specs.State.{Frame}
use Rattle.hip_runs.specs.Laws.StepLaws.{has_frame}

-- If a block exists, its function exists and has it.
pub block_there : (P : Program) (g b : ℕ) (block : Block) → block_at P g b ≡ Some block
    → (fn : Function) × IsBlockAt P g b fn block
block_there P g b block e = go (slice_get P.functions g) refl e
  where
    go : (o : Option Function) → slice_get P.functions g ≡ o → slice_get (blocks_in o) b ≡ Some block
        → (fn : Function) × IsBlockAt P g b fn block
    go None q h = cc
    go (Some fn) q h = (fn, record { function = q; block_is = h })

-- A list of frames that is not empty has a first frame.
pub first_frame : (fs : List Frame) → has_frame fs ≡ true → (f : Frame) × (gs : List Frame) × (fs ≡ f ∷ gs)
first_frame [] h = cc
first_frame (f ∷ fs) h = (f, fs, refl)
