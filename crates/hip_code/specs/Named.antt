-- The operands of an instruction that its op keeps: the address of a store, and the arguments of a call.
use Rattle.std.specs.List.{list_any}
use Rattle.std.specs.Prelude.{ℕ, ◌≤◌, ◌≡◌, Bool, true, false, List, length, map, Option, Some, None, slice_get}
use Rattle.hip_types.specs.declared.number.Scalar.{Scalar}
use Rattle.hip_types.specs.declared.number.Scalar.TheVariants.{Int, Ptr}
use Rattle.hip_externs.specs.Externs.{call_of}
use Rattle.hip_externs.specs.declared.call.ExternCall.{ExternCall}
use Rattle.hip_tree.specs.declared.instr.Arg.{Arg}
use Rattle.hip_tree.specs.declared.instr.Instr.{Instr}
use Rattle.hip_tree.specs.declared.instr.Instr.TheVariants as instrs
use Rattle.hip_tree.specs.declared.program.Function.{Function}
use Rattle.hip_tree.specs.declared.program.Program.{Program}
use Rattle.hip_sound.specs.NumberedNames.{function_number}
use Rattle.hip_runs.specs.declared.input.Input.{Input}
use Rattle.hip_runs.specs.Operands.{value_of, values_of}
use Rattle.hip_runs.specs.State.{Registers}
use Rattle.hip_code.specs.Numbers.{OpNumbers, operand_value, entries_of}
use Rattle.hip_code.specs.declared.op.Call.{Call}
use Rattle.hip_code.specs.declared.op.Control.TheVariants as controls
use Rattle.hip_code.specs.declared.op.Memory.TheVariants as memories
use Rattle.hip_code.specs.declared.op.Op.{Op}
use Rattle.hip_code.specs.declared.op.Op.TheVariants as ops

-- The op stores at an address.
abbrev pub stores_at : OpNumbers → ℕ → Op → Type 0
stores_at n a (ops.Memory (memories.Store size align value addr)) = operand_value n addr ≡ a
stores_at n a _ = ⊥

-- The values that a call moves into the slots of its callee.
abbrev pub values_passed : OpNumbers → Call → List ℕ
values_passed n call = map (λ m. operand_value n m.value) (entries_of call.arguments n.tables.moves)

-- The call is a call of that function, and passes these values if the function has a parameter for each of them.
pub record IsCallWith (P : Program) (n : OpNumbers) (callee : List ℕ) (values : List ℕ) (call : Call) : Type 0 where
  pub numbered : function_number P callee ≡ Some call.function
  pub passed : (g : Function) → slice_get P.functions call.function ≡ Some g
      → length values ≤ length g.params →
      values_passed n call ≡ values

-- The op is a call of the function of that name with these values; an op of another kind never is.
abbrev pub passes : Program → OpNumbers → List ℕ → List ℕ → Op → Type 0
passes P n callee values (ops.Control (controls.Call call)) = IsCallWith P n callee values call
passes P n callee values _ = ⊥

-- The op acts on memory, on cache lines or on the outside.
abbrev pub is_memory : Op → Type 0
is_memory (ops.Memory memory) = Unit {0}
is_memory _ = ⊥

-- The op of a call: for a function of the program it passes the arguments; for an external function it acts on memory,
-- on cache lines or on the outside.
abbrev pub passes_or_effects : Program → OpNumbers → Option ExternCall → List ℕ → List ℕ → Op → Type 0
passes_or_effects P n None callee values o = passes P n callee values o
passes_or_effects P n (Some call) callee values o = is_memory o

-- The op of a store has the address of the store, and the op of a call passes its arguments; any op fits any other
-- instruction.
abbrev pub names_operands : Program → Input → OpNumbers → Registers → Op → Instr → Type 0
names_operands P I n rs o (instrs.Store ty value addr align) = stores_at n (value_of P.globals I.base rs addr) o
names_operands P I n rs o (instrs.Call dest ret callee args) =
    passes_or_effects P n (call_of callee) callee (values_of P.globals I.base rs args) o
names_operands P I n rs o _ = Unit {0}

-- ---- pointers

-- Whether a scalar type is `ptr`.
abbrev pub is_pointer : Scalar → Bool
is_pointer Ptr = true
is_pointer (Int width) = false

-- Whether one of the arguments is a pointer.
abbrev pub has_pointer : List Arg → Bool
has_pointer args = list_any (λ a. is_pointer a.ty) args

-- A call says whether one of its arguments is a pointer; an op of another kind says nothing.
abbrev pub says_pointed : Op → List Arg → Type 0
says_pointed (ops.Control (controls.Call call)) args = call.pointed ≡ has_pointer args
says_pointed _ args = Unit {0}

-- If the instruction and its op are both calls, the op says whether one of the arguments is a pointer.
abbrev pub says_of : Op → Instr → Type 0
says_of o (instrs.Call dest ret callee args) = says_pointed o args
says_of o _ = Unit {0}

-- The op has the operands of its instruction: a store's address, and the values of a call's arguments. A call says
-- whether one of these is a pointer.
pub record NamesOperands (P : Program) (I : Input) (n : OpNumbers) (rs : Registers) (o : Op) (i : Instr) : Type 0 where
  pub is : names_operands P I n rs o i
  pub pointed : says_of o i
