-- The values of registers and operands. A value is the number of an integer below 2^N, or an address below 2^64.
use Rattle.std.specs.Prelude.{ℕ, cond, List, [], ◌∷◌, map, Option, Some, None, min}
use Rattle.std.specs.Str.{bytes_eq}
use Rattle.hip_tree.specs.declared.instr.Arg.{Arg}
use Rattle.hip_tree.specs.declared.instr.Operand.{Operand}
use Rattle.hip_tree.specs.declared.instr.Operand.TheVariants.{Reg, Fixed}
use Rattle.hip_tree.specs.declared.program.GlobalVar.{GlobalVar}
use Rattle.hip_tree.specs.declared.program.Param.{Param}
use Rattle.hip_types.specs.Widths.{bytes_of}
use Rattle.hip_types.specs.declared.number.Scalar.{Scalar}
use Rattle.hip_types.specs.declared.number.Scalar.TheVariants.{Int, Ptr}
use Rattle.hip_globals.specs.Values.{const_value}
use Rattle.hip_runs.specs.State.{Registers}

-- The value of a register; 0 if it has none.
abbrev pub look_up : Registers → List ℕ → ℕ
look_up [] name = 0
look_up (r ∷ rs) name = cond (bytes_eq r.0 name) r.1 (look_up rs name)

-- A register takes a value; the result of a call may go nowhere.
abbrev pub assigned : Option (List ℕ) → ℕ → Registers → Registers
assigned None value registers = registers
assigned (Some name) value registers = (name, value) ∷ registers

-- The value of an operand, where the region begins at a base.
abbrev pub value_of : List GlobalVar → ℕ → Registers → Operand → ℕ
value_of globals base registers (Reg name) = look_up registers name
value_of globals base registers (Fixed constant) = const_value globals base constant

-- The values of a call's arguments, in order, where the region begins at a base.
abbrev pub values_of : List GlobalVar → ℕ → Registers → List Arg → List ℕ
values_of globals base registers args = map (λ a. value_of globals base registers a.value) args

-- The registers of a new frame: each parameter has its argument.
abbrev pub bound : List Param → List ℕ → Registers
bound [] values = []
bound (p ∷ ps) [] = []
bound (p ∷ ps) (v ∷ vs) = (p.name, v) ∷ bound ps vs

-- How many bytes a scalar takes in memory.
abbrev pub scalar_size : Scalar → ℕ
scalar_size (Int w) = bytes_of w
scalar_size Ptr = 8

-- The alignment of an access: the smaller of the written alignment and the alignment of its type, which is the type's
-- size. (LLVM, "load".)
abbrev pub access_align : Scalar → Option ℕ → ℕ
access_align s None = scalar_size s
access_align s (Some n) = min (scalar_size s) n
