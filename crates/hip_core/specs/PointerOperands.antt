-- The pointer operands of the instruction at a machine's place, by its op.
use Rattle.std.specs.Prelude.{ℕ, ◌⊎◌, ◌≡◌, List, [], ◌∷◌, ◌++◌, Option, Some, option_map, option_to_list, slice_get}
use Rattle.std.specs.List.{flat_map}
use Rattle.hip_types.specs.declared.number.Scalar.{Scalar}
use Rattle.hip_types.specs.declared.number.Scalar.TheVariants.{Int, Ptr}
use Rattle.hip_tree.specs.declared.instr.Arg.{Arg}
use Rattle.hip_tree.specs.declared.instr.Instr.{Instr}
use Rattle.hip_tree.specs.declared.instr.Instr.TheVariants.{Call}
use Rattle.hip_tree.specs.declared.program.Program.{Program}
use Rattle.hip_sound.specs.Given.{CallsFunction, CallsExtern}
use Rattle.hip_sound.specs.Sound.{IsSound}
use Rattle.hip_runs.specs.declared.input.Input.{Input}
use Rattle.hip_runs.specs.Found.Marks.{pointer_arg, pointer_operands}
use Rattle.hip_runs.specs.Operands.{value_of}
use Rattle.hip_runs.specs.State.{Registers}
use Rattle.hip_code.specs.declared.code.Code.{Code}
use Rattle.hip_code.specs.declared.op.Control.TheVariants as controls
use Rattle.hip_code.specs.declared.op.Op.{Op}
use Rattle.hip_code.specs.declared.op.Op.TheVariants as ops
use Rattle.hip_code.specs.Named.{NamesOperands, values_passed}
use Rattle.hip_code.specs.Numbers.{OpNumbers}
use Rattle.hip_core.specs.declared.core_parts.Core.{Core}
use Rattle.hip_core.specs.Acts.{numbers_of}

-- The argument at place j is the pointer of that number.
pub record IsPointerArg (args : List Arg) (k j : ℕ) : Type 0 where
  pub arg : Arg
  pub here : slice_get args j ≡ Some arg
  pub is : slice_get (flat_map pointer_arg args) k ≡ Some arg.value

-- The value that a call passes for a pointer, as a list of one; none for an integer.
abbrev pub pointer_passed : Scalar → Option ℕ → List ℕ
pointer_passed Ptr value = option_to_list value
pointer_passed (Int width) value = []

-- The values of those arguments that are pointers, where the call passes these values.
abbrev pub pointers_among : List Arg → List ℕ → List ℕ
pointers_among [] values = []
pointers_among (a ∷ args) [] = []
pointers_among (a ∷ args) (v ∷ values) = pointer_passed a.ty (Some v) ++ pointers_among args values

-- The op is a call that passes these values.
abbrev pub calls_with : OpNumbers → List ℕ → Op → Type 0
calls_with n vs (ops.Control (controls.Call call)) = values_passed n call ≡ vs
calls_with n vs _ = ⊥

-- A call is one of a function of the program or of an external one.
abbrev pub call_agrees : Program → Instr → Type 0
call_agrees P (Call dest ret callee args) = CallsFunction P callee ret args ⊎ CallsExtern callee ret args
call_agrees P _ = Unit {0}

-- The value of the pointer operand of that number, by the op at the machine's place.
pub record TellsPointer (code : Code) (c : Core) (i : Instr) (k : ℕ) (o : Option ℕ) : Type 0 where
  pub tells : (P : Program) (I : Input) (rs : Registers) (op : Op) → IsSound P →
      slice_get code.ops.items c.top.place ≡ Some op →
      NamesOperands P I (numbers_of code c) rs op i → call_agrees P i →
      o ≡ option_map (value_of P.globals I.base rs) (slice_get (pointer_operands P i) k)
