-- The fields of structs that indices name.
use Rattle.std.specs.Prelude.{ℕ, ◌≡◌, List, Some}
use Rattle.hip_types.specs.declared.number.Bits.{Bits}
use Rattle.hip_types.specs.declared.ty.Ty.{Ty}
use Rattle.hip_tree.specs.declared.constant.Const.TheVariants.{Int}
use Rattle.hip_tree.specs.declared.instr.Operand.{Operand}
use Rattle.hip_tree.specs.declared.instr.Operand.TheVariants.{Fixed}
use Rattle.hip_globals.specs.Constants.{index_of}
use Rattle.hip_sound.specs.Places.{named_field}

-- The index names a field.
pub record IsField (fields : List Ty) (index : Operand) : Type 0 where
  pub ty : Ty
  pub is : named_field fields index ≡ Some ty

-- The index is the literal of that number.
pub record IsLiteralIndex (index : Operand) (number : ℕ) : Type 0 where
  pub bits : Bits
  pub is : index ≡ Fixed (Int bits)
  pub number_is : index_of bits ≡ number
