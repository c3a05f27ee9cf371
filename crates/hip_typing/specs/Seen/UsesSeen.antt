-- The meaning of the code's uses.
use Rattle.std.specs.Prelude.{ℕ, Bool, true, List, [], ◌∷◌, ◌++◌, Option, Some, None, is_some, option_map, ◌&&◌}
use Rattle.std.specs.List.{list_all}
use Rattle.hip_types.specs.declared.number.Scalar.{Scalar}
use Rattle.hip_tree.specs.declared.instr.Instr.{Instr}
use Rattle.hip_tree.specs.declared.instr.Instr.TheVariants.{Cast, Gep, Call}
use Rattle.hip_tree.specs.declared.instr.Operand.{Operand}
use Rattle.hip_tree.specs.declared.instr.Operand.TheVariants.{Reg, Fixed}
use Rattle.hip_sound.specs.Constants.{has_shape, names_in}
use Rattle.hip_globals.specs.Constants.{types_in}
use Rattle.hip_names.specs.Names.{is_among}
use Rattle.hip_grammar.specs.Words.{type_of}
use Rattle.hip_sound.specs.Places.{fits_test, has_type, cast_agrees, gep_agrees, signature_agrees, register_agrees, written_types}
use Rattle.hip_sound.specs.Registers.{Use, use_of, arg_uses}
use Rattle.hip_names.specs.Tables.{value_beside}
use Rattle.hip_typing.specs.Seen.Tables.{callee_seen}
use Rattle.hip_typing.specs.declared.tables.callees.Callee.{Callee}
use Rattle.hip_typing.specs.declared.places.uses.OperandUse.{OperandUse}
use Rattle.hip_typing.specs.declared.places.uses.Uses.{Uses}

-- An operand with the type that its place states, as a list; empty if there is none.
abbrev pub use_seen : Option OperandUse → List Use
use_seen None = []
use_seen (Some u) = use_of u.operand.now u.ty ∷ []

-- The operands of a place, each with the type that it states, in order: up to three, and then arguments.
abbrev pub uses_seen : Uses → List Use
uses_seen us = use_seen us.first ++ (use_seen us.second ++ (use_seen us.third ++ arg_uses us.args.now))

-- ---- operands by the tables of the code

-- Whether an operand exists: the table of registers has the register, or all names in the constant are names of
-- globals.
abbrev pub operand_known : List (List ℕ) → List (Option Scalar) → List (List ℕ) → Operand → Bool
operand_known names values globals (Reg name) = is_some (value_beside names values name)
operand_known names values globals (Fixed value) = list_all (is_among globals) (names_in value)

-- Whether each operand of the uses exists, by the tables; true if there are no uses.
abbrev pub operands_known : List (List ℕ) → List (Option Scalar) → List (List ℕ) → List Use → Bool
operands_known names values globals us = list_all (λ u. operand_known names values globals u.operand) us

-- Whether an operand has a type: the table of registers gives the register this type, or the constant has the type's
-- shape. False for a register that has no type.
abbrev pub operand_agrees : List (List ℕ) → List (Option Scalar) → Operand → Scalar → Bool
operand_agrees names values (Reg name) ty = has_type ty (value_beside names values name)
operand_agrees names values (Fixed value) ty = has_shape value (type_of ty)

-- Whether each operand has the type that its use states; true if there are no uses.
abbrev pub operands_agree : List (List ℕ) → List (Option Scalar) → List Use → Bool
operands_agree names values us = list_all (λ u. operand_agrees names values u.operand u.ty) us

-- Whether each type that is written in a constant fits; true for a register.
abbrev pub operand_fits : Operand → Bool
operand_fits (Reg name) = true
operand_fits (Fixed value) = list_all fits_test (types_in value)

-- Whether each type that is written in the uses' constants fits.
abbrev pub operands_fit : List Use → Bool
operands_fit us = list_all (λ u. operand_fits u.operand) us

-- ---- instructions by the tables of the code

-- Whether the types of a conversion, a path of elements or a call agree, with calls verified by the table of callees;
-- true for any other instruction.
abbrev pub instr_agrees_in : List (List ℕ) → List Callee → Instr → Bool
instr_agrees_in names values (Cast dest op from a to) = cast_agrees op from to
instr_agrees_in names values (Gep dest inbounds ty base indices) = gep_agrees indices ty
instr_agrees_in names values (Call dest ret callee args) =
    signature_agrees ret args (option_map callee_seen (value_beside names values callee)) && register_agrees dest ret
instr_agrees_in names values _ = true

-- Whether the table of callees has the name that a call names; true for any other instruction.
abbrev pub callee_known_in : List (List ℕ) → List Callee → Instr → Bool
callee_known_in names values (Call dest ret callee args) = is_some (value_beside names values callee)
callee_known_in names values _ = true

-- Whether the type that is written in an `alloca` or a `getelementptr` fits; true for any other instruction.
abbrev pub written_fits : Instr → Bool
written_fits instr = list_all fits_test (written_types instr)
