-- The inputs of runs, and those that are valid for a program.
use Rattle.std.specs.Prelude.{◌≡◌, ◌≤◌, ◌<◌, All, length, FitsSigned}
use Rattle.std.specs.Int.{w64}
use Rattle.hip_tree.specs.declared.program.Program.{Program}
use Rattle.hip_globals.specs.Addresses.{IsBase, region_size}
use Rattle.hip_runs.specs.declared.input.Input.{Input}
use Rattle.hip_runs.specs.declared.limits.TheConstants.{MOST_NUMBERS, MOST_TURNS}

-- The types of an input's fields: each initial byte is below 256, and each number has 64 bits.
pub record IsInput (I : Input) : Type 0 where
  pub bytes : All (λ b. b < 256) I.image
  pub numbers : All (FitsSigned w64) I.numbers

-- The base is a multiple of 4,096 from 2^32 to 2^46, there are as many initial bytes as the program's region has, at
-- most 1,048,576 numbers, and at most 2^40 turns. (This project's own.)
pub record IsValid (P : Program) (I : Input) : Type 0 where
  pub base : IsBase I.base
  pub image : length I.image ≡ region_size P
  pub numbers : length I.numbers ≤ MOST_NUMBERS
  pub limit : I.limit ≤ MOST_TURNS
