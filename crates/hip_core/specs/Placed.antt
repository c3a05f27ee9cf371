-- The place of a frame in the code.
use Rattle.std.specs.Prelude.{◌≡◌, ℕ}
use Rattle.hip_tree.specs.declared.program.Program.{Program}
use Rattle.hip_runs.specs.State.{Frame}
use Rattle.hip_code.specs.Entries.{PlaceStandsAt, entry}
use Rattle.hip_core.specs.declared.core_parts.Activation.{Activation}

-- The place is that of instruction k (or of the end) in block b of function g, `first` is the place of the block's
-- first op, and i and j are the numbers g and b.
pub record OpIsPlaced (P : Program) (place first i j g b k : ℕ) : Type 0 where
  pub stands : PlaceStandsAt P place g b k
  pub begins : first ≡ entry P g b
  pub function : i ≡ g
  pub block : j ≡ b

-- The activation has the frame's function and block, where that block begins in the code, and the frame's place there.
abbrev pub placed_at : Program → Activation → Frame → Type 0
placed_at P x f = OpIsPlaced P x.place x.entry x.function x.block f.function f.block f.place
