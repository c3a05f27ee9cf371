-- The ops that are made so far: those of a program's first places, in order.
use Rattle.std.specs.Prelude.{ℕ, ◌+◌, ◌<◌, ◌≡◌, true, List, length, Some, slice_get}
use Rattle.hip_tree.specs.declared.block.Block.{Block}
use Rattle.hip_tree.specs.declared.instr.Instr.{Instr}
use Rattle.hip_tree.specs.declared.program.Program.{Program}
use Rattle.hip_runs.specs.Places.{block_at}
use Rattle.hip_code.specs.Entries.{entry}
use Rattle.hip_code.specs.Extents.{keeps_extent}
use Rattle.hip_code.specs.Numbers.{Tables}
use Rattle.hip_code.specs.Ops.{is_end}
use Rattle.hip_code.specs.declared.op.Op.{Op}
use Rattle.hip_scope.specs.Growth.{TablesGrow}
use Rattle.hip_scope.specs.Scopes.{DoesInstr, DoesEnd}

-- The op at the place of the instruction resolves it, however the tables grow, and keeps the slots of the block's
-- extent if it is a call.
pub record HasMade (P : Program) (base : ℕ) (ops : List Op) (t : Tables) (f b k : ℕ) (i : Instr) : Type 0 where
  pub op : Op
  pub here : slice_get ops (entry P f b + k) ≡ Some op
  pub does : (u : Tables) → TablesGrow t u → DoesInstr P base f u op i
  pub extent : keeps_extent P f b op

-- The op at the place of the block's end resolves it, however the tables grow.
pub record HasMadeEnd (P : Program) (base : ℕ) (ops : List Op) (t : Tables) (f b : ℕ) (block : Block) : Type 0 where
  pub op : Op
  pub here : slice_get ops (entry P f b + length block.body) ≡ Some op
  pub end_is : is_end op ≡ true
  pub ends : (u : Tables) → TablesGrow t u → DoesEnd P base f b u op block.end

-- Each place of the code below the number of ops has its op.
pub record IsFront (P : Program) (base : ℕ) (ops : List Op) (t : Tables) : Type 0 where
  pub body : (f b k : ℕ) (block : Block) (i : Instr) → block_at P f b ≡ Some block →
      slice_get block.body k ≡ Some i → entry P f b + k < length ops → HasMade P base ops t f b k i
  pub last : (f b : ℕ) (block : Block) → block_at P f b ≡ Some block →
      entry P f b + length block.body < length ops → HasMadeEnd P base ops t f b block
