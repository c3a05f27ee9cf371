-- Where the bytes of a global lie among the bytes of all globals.
use Rattle.std.specs.Prelude.{ℕ, ◌-◌, ◌≡◌, Bool, true, List, take, drop, length, Some, slice_get}
use Rattle.hip_tree.specs.declared.program.GlobalVar.{GlobalVar}
use Rattle.hip_tree.specs.declared.program.Program.{Program}
use Rattle.hip_globals.specs.Addresses.{same_truth, start_of}
use Rattle.hip_globals.specs.Values.{global_address, constant_bytes}

-- The whole has these bytes from this place on.
pub record HoldsAt (whole : List ℕ) (place : ℕ) (bytes : List ℕ) : Type 0 where
  pub is : take (length bytes) (drop place whole) ≡ bytes

-- The bytes, of which the first is at `start`, have the bytes of each initialiser at the place of its global. This
-- holds for all globals of one kind, persistent or volatile.
pub record HoldsGlobals (P : Program) (base : ℕ) (persistent : Bool) (start : ℕ) (bytes : List ℕ) : Type 0 where
  pub holds : (number : ℕ) (g : GlobalVar) → slice_get P.globals number ≡ Some g
      → same_truth g.persistent persistent ≡ true
      → HoldsAt bytes (start_of persistent start P.globals number - start)
      (constant_bytes (global_address P.globals base) g.init g.ty)
