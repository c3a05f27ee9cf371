-- Lists that have a number or a table for each item of another list, in order.
use Rattle.std.specs.Prelude.{ℕ, ◌≡◌, ◌<◌, List, Some, length, slice_get}
use Rattle.hip_tree.specs.declared.block.Block.{Block}
use Rattle.hip_tree.specs.declared.program.Function.{Function}
use Rattle.hip_tree.specs.declared.program.Program.{Program}
use Rattle.hip_names.specs.Names.{AllDiffer}
use Rattle.hip_names.specs.declared.table.NameTable.{NameTable}
use Rattle.hip_sound.specs.Sound.{register_names}
use Rattle.hip_runs.specs.Places.{blocks_of}
use Rattle.hip_code.specs.Extents.{IsExtent}
use Rattle.hip_scope.specs.PhiNumbers.{HasTables}

-- The list has `count` numbers, each given by its place.
pub record Lists (numbers : List ℕ) (count : ℕ) (number : ℕ → ℕ) : Type 0 where
  pub as_long : length numbers ≡ count
  pub at : (k : ℕ) → k < count → slice_get numbers k ≡ Some (number k)

-- The registers of each function have different names.
pub record RegistersDiffer (fs : List Function) : Type 0 where
  pub at : (g : ℕ) (fn : Function) → slice_get fs g ≡ Some fn → AllDiffer (register_names fn)

-- For each block the list has the tables of its phis.
pub record SourcesOf (sources : List (List (NameTable ℕ))) (bs : List Block) : Type 0 where
  pub at : (b : ℕ) (block : Block) → slice_get bs b ≡ Some block → HasTables sources b block.phis

-- The list has an extent for each block of function f.
pub record HasExtents (P : Program) (f : ℕ) (extents : List ℕ) : Type 0 where
  pub as_long : length extents ≡ length (blocks_of P f)
  pub at : (b extent : ℕ) → slice_get extents b ≡ Some extent → IsExtent P f b extent
