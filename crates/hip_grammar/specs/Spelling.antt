-- Which trees some text reads as, by rules on the tree alone: for each production, what the grammar requires beyond the
-- types of the tree.
use Rattle.std.specs.Prelude.{ℕ, ◌+◌, zero, suc, Bool, true, false, not, ◌&&◌, ◌||◌, ◌==◌, nat_lt, List, [], ◌∷◌, Option, Some, None}
use Rattle.std.specs.List.{list_all}
use Rattle.hip_types.specs.Widths.{bits_of}
use Rattle.hip_types.specs.declared.number.BinaryOp.{BinaryOp}
use Rattle.hip_types.specs.declared.number.Bits.{Bits}
use Rattle.hip_types.specs.declared.number.CastOp.{CastOp}
use Rattle.hip_types.specs.declared.number.CastOp.TheVariants as casts
use Rattle.hip_types.specs.declared.number.Scalar.{Scalar}
use Rattle.hip_types.specs.declared.number.Scalar.TheVariants as scalars
use Rattle.hip_types.specs.declared.number.Width.{Width}
use Rattle.hip_types.specs.declared.number.Width.TheVariants.{W1}
use Rattle.hip_types.specs.declared.ty.Ty.{Ty, out-Ty}
use Rattle.hip_types.specs.declared.ty.Ty.TheOpen.{Ty-F}
use Rattle.hip_types.specs.declared.limits.TheConstants.{DEEPEST_NESTING, LARGEST_COUNT}
use Rattle.hip_tokens.specs.Longest.{is_name}
use Rattle.hip_tree.specs.declared.block.Block.{Block}
use Rattle.hip_tree.specs.declared.block.Case.{Case}
use Rattle.hip_tree.specs.declared.block.Edge.{Edge}
use Rattle.hip_tree.specs.declared.block.End.{End}
use Rattle.hip_tree.specs.declared.block.End.TheVariants as ends
use Rattle.hip_tree.specs.declared.block.Phi.{Phi}
use Rattle.hip_tree.specs.declared.constant.Const.{Const, out-Const}
use Rattle.hip_tree.specs.declared.constant.Const.TheOpen.{Const-F}
use Rattle.hip_tree.specs.declared.constant.ConstGep.{ConstGep}
use Rattle.hip_tree.specs.declared.constant.TypedConst.{TypedConst}
use Rattle.hip_tree.specs.declared.instr.Arg.{Arg}
use Rattle.hip_tree.specs.declared.instr.Flags.{Flags}
use Rattle.hip_tree.specs.declared.instr.Instr.{Instr}
use Rattle.hip_tree.specs.declared.instr.Instr.TheVariants as instrs
use Rattle.hip_tree.specs.declared.instr.Operand.{Operand}
use Rattle.hip_tree.specs.declared.instr.Operand.TheVariants as operands
use Rattle.hip_tree.specs.declared.program.Extern.{Extern}
use Rattle.hip_tree.specs.declared.program.Function.{Function}
use Rattle.hip_tree.specs.declared.program.GlobalVar.{GlobalVar}
use Rattle.hip_tree.specs.declared.program.Param.{Param}
use Rattle.hip_tree.specs.declared.program.Program.{Program}
use Rattle.hip_grammar.specs.Numbers.{is_alignment}
use Rattle.hip_grammar.specs.Words.{may_wrap, may_be_exact}

-- At least one.
abbrev pub not_empty : {A : Type 0} → List A → Bool
not_empty [] = false
not_empty (x ∷ xs) = true

-- An alignment is not written, or a power of two up to the largest one.
abbrev pub spelled_align : Option ℕ → Bool
spelled_align None = true
spelled_align (Some n) = is_alignment n

-- ---- types

-- Where no level is left: a type that is neither an array nor a struct.
abbrev pub spelled_flat : Ty-F Ty → Bool
spelled_flat (Ty-F.Int w) = true
spelled_flat Ty-F.Ptr = true
spelled_flat (Ty-F.Array n element) = false
spelled_flat (Ty-F.Struct fields) = false

-- An array has at most `LARGEST_COUNT` elements.
abbrev pub spelled_level : (Ty → Bool) → Ty-F Ty → Bool
spelled_level inner (Ty-F.Int w) = true
spelled_level inner Ty-F.Ptr = true
spelled_level inner (Ty-F.Array n element) = nat_lt n (LARGEST_COUNT + 1) && inner element
spelled_level inner (Ty-F.Struct fields) = list_all inner fields

-- Arrays and structs nested at most n levels deep.
unfoldable pub spelled_type_within : ℕ → Ty → Bool
spelled_type_within zero t = spelled_flat (out-Ty t)
spelled_type_within (suc n) t = spelled_level (spelled_type_within n) (out-Ty t)

-- A type: arrays and structs nested at most `DEEPEST_NESTING` deep, `{}` being one level, and no array too long.
abbrev pub spelled_type : Ty → Bool
spelled_type = spelled_type_within DEEPEST_NESTING

-- ---- constants

-- Whether the integer is one of this width.
abbrev pub of_width : Width → Bits → Bool
of_width w b = bits_of b.width == bits_of w

-- A constant `getelementptr`, by what may be its base.
abbrev pub spelled_gep : (Const → Bool) → ConstGep → Bool
spelled_gep base gep = spelled_type gep.ty && (base gep.base && not_empty gep.indices)

-- Under `ptr`: `null`, `zeroinitializer`, the address of a global or `getelementptr`.
abbrev pub spelled_pointer_level : (ConstGep → Bool) → Const-F Const ConstGep TypedConst → Bool
spelled_pointer_level inner (Const-F.Int b) = false
spelled_pointer_level inner Const-F.Null = true
spelled_pointer_level inner Const-F.Zero = true
spelled_pointer_level inner (Const-F.Address name) = is_name name
spelled_pointer_level inner (Const-F.Gep gep) = inner gep
spelled_pointer_level inner (Const-F.Array items) = false
spelled_pointer_level inner (Const-F.Struct items) = false

-- At most n nested `getelementptr`.
unfoldable pub spelled_pointer_within : ℕ → Const → Bool
spelled_pointer_within zero c = spelled_pointer_level (λ gep. false) (out-Const c)
spelled_pointer_within (suc n) c = spelled_pointer_level (spelled_gep (spelled_pointer_within n)) (out-Const c)

-- A constant under `ptr`, with at most `DEEPEST_NESTING` nested `getelementptr`.
abbrev pub spelled_pointer : Const → Bool
spelled_pointer = spelled_pointer_within DEEPEST_NESTING

-- Under an integer type: an integer of its width or `zeroinitializer`.
abbrev pub spelled_int : Width → Const-F Const ConstGep TypedConst → Bool
spelled_int w (Const-F.Int b) = of_width w b
spelled_int w Const-F.Null = false
spelled_int w Const-F.Zero = true
spelled_int w (Const-F.Address name) = false
spelled_int w (Const-F.Gep gep) = false
spelled_int w (Const-F.Array items) = false
spelled_int w (Const-F.Struct items) = false

-- Under an array type: a bracketed list or `zeroinitializer`.
abbrev pub spelled_array : (List TypedConst → Bool) → Const-F Const ConstGep TypedConst → Bool
spelled_array inner (Const-F.Int b) = false
spelled_array inner Const-F.Null = false
spelled_array inner Const-F.Zero = true
spelled_array inner (Const-F.Address name) = false
spelled_array inner (Const-F.Gep gep) = false
spelled_array inner (Const-F.Array items) = inner items
spelled_array inner (Const-F.Struct items) = false

-- Under a struct type: a braced list or `zeroinitializer`.
abbrev pub spelled_struct : (List TypedConst → Bool) → Const-F Const ConstGep TypedConst → Bool
spelled_struct inner (Const-F.Int b) = false
spelled_struct inner Const-F.Null = false
spelled_struct inner Const-F.Zero = true
spelled_struct inner (Const-F.Address name) = false
spelled_struct inner (Const-F.Gep gep) = false
spelled_struct inner (Const-F.Array items) = false
spelled_struct inner (Const-F.Struct items) = inner items

-- A constant under a type, by a test of its list. The reader does not require that a list has the length and the member
-- types of the type.
abbrev pub spelled_const_by : (List TypedConst → Bool) → Ty-F Ty → Const → Bool
spelled_const_by inner (Ty-F.Int w) c = spelled_int w (out-Const c)
spelled_const_by inner Ty-F.Ptr c = spelled_pointer c
spelled_const_by inner (Ty-F.Array n element) c = spelled_array inner (out-Const c)
spelled_const_by inner (Ty-F.Struct fields) c = spelled_struct inner (out-Const c)

-- An item of a list has a type of its own, and its constant is under that type.
abbrev pub spelled_item : (Ty → Const → Bool) → TypedConst → Bool
spelled_item value item = spelled_type item.ty && value item.ty item.value

-- Bracketed and braced lists nested at most n levels deep.
unfoldable pub spelled_const_within : ℕ → Ty → Const → Bool
spelled_const_within zero ty c = spelled_const_by (λ items. false) (out-Ty ty) c
spelled_const_within (suc n) ty c = spelled_const_by (list_all (spelled_item (spelled_const_within n))) (out-Ty ty) c

-- A constant under a type, with lists nested at most `DEEPEST_NESTING` deep.
abbrev pub spelled_const : Ty → Const → Bool
spelled_const = spelled_const_within DEEPEST_NESTING

-- ---- operands

-- A constant under an integer type or `ptr`, which is no list.
abbrev pub spelled_scalar_const : Scalar → Const → Bool
spelled_scalar_const (scalars.Int w) c = spelled_int w (out-Const c)
spelled_scalar_const scalars.Ptr c = spelled_pointer c

-- A register, or a constant under the scalar type.
abbrev pub spelled_operand : Scalar → Operand → Bool
spelled_operand s (operands.Reg name) = is_name name
spelled_operand s (operands.Fixed value) = spelled_scalar_const s value

-- An operand under the type that is written before it.
abbrev pub spelled_arg : Arg → Bool
spelled_arg arg = spelled_operand arg.ty arg.value

-- Whether a scalar is an integer type, and so not `ptr`.
abbrev pub is_int_type : Scalar → Bool
is_int_type (scalars.Int w) = true
is_int_type scalars.Ptr = false

-- An index is an operand of an integer type.
abbrev pub spelled_index : Arg → Bool
spelled_index arg = is_int_type arg.ty && spelled_operand arg.ty arg.value

-- ---- instructions

-- `nuw` and `nsw` only after add, sub, mul and shl, `exact` only after udiv, sdiv, lshr and ashr.
abbrev pub spelled_flags : BinaryOp → Flags → Bool
spelled_flags op flags = (may_wrap op || not (flags.nuw || flags.nsw)) && (may_be_exact op || not flags.exact)

-- `ptrtoint` from a pointer to an integer, `inttoptr` from an integer to a pointer, the others from an integer to an
-- integer.
abbrev pub spelled_cast : CastOp → Scalar → Scalar → Bool
spelled_cast casts.Zext from to = is_int_type from && is_int_type to
spelled_cast casts.Sext from to = is_int_type from && is_int_type to
spelled_cast casts.Trunc from to = is_int_type from && is_int_type to
spelled_cast casts.Ptrtoint from to = not (is_int_type from) && is_int_type to
spelled_cast casts.Inttoptr from to = is_int_type from && not (is_int_type to)

-- The register of a call, if it has one.
abbrev pub spelled_result : Option (List ℕ) → Bool
spelled_result None = true
spelled_result (Some dest) = is_name dest

-- The instructions on memory, and calls.
abbrev pub spelled_memory_instr : Instr → Bool
spelled_memory_instr (instrs.Alloca dest ty n) = is_name dest && (spelled_type ty && spelled_align n)
spelled_memory_instr (instrs.Load dest s addr n) = is_name dest && (spelled_operand scalars.Ptr addr && spelled_align n)
spelled_memory_instr (instrs.Store s value addr n) =
    spelled_operand s value && (spelled_operand scalars.Ptr addr && spelled_align n)
spelled_memory_instr (instrs.Gep dest inbounds ty base indices) =
    is_name dest && (spelled_type ty && (spelled_operand scalars.Ptr base && (not_empty indices
    && list_all spelled_index indices)))
spelled_memory_instr (instrs.Call dest ret callee args) =
    spelled_result dest && (is_name callee && list_all spelled_arg args)
spelled_memory_instr _ = false

-- Any instruction: its names can be written, its operands are allowed under their types, and a `select`'s condition
-- under i1.
abbrev pub spelled_instr : Instr → Bool
spelled_instr (instrs.Binary dest op flags w a b) =
    is_name dest && (spelled_flags op flags && (spelled_operand (scalars.Int w) a && spelled_operand (scalars.Int w) b))
spelled_instr (instrs.Compare dest pred s a b) = is_name dest && (spelled_operand s a && spelled_operand s b)
spelled_instr (instrs.Select dest cond s a b) =
    is_name dest && (spelled_operand (scalars.Int W1) cond && (spelled_operand s a && spelled_operand s b))
spelled_instr (instrs.Cast dest op from a to) = is_name dest && (spelled_cast op from to && spelled_operand from a)
spelled_instr instr = spelled_memory_instr instr

-- ---- blocks

-- An edge of a phi has an operand of the phi's type, and a label.
abbrev pub spelled_edge : Scalar → Edge → Bool
spelled_edge s edge = spelled_operand s edge.value && is_name edge.label

-- A phi has at least one edge.
abbrev pub spelled_phi : Phi → Bool
spelled_phi phi = is_name phi.dest && (not_empty phi.edges && list_all (spelled_edge phi.ty) phi.edges)

-- A case is of the switch's width.
abbrev pub spelled_case : Width → Case → Bool
spelled_case w case = of_width w case.value && is_name case.label

-- The condition of a `br` is an operand of type i1, the value of a `switch` one of its width.
abbrev pub spelled_end : End → Bool
spelled_end (ends.Br label) = is_name label
spelled_end (ends.CondBr cond yes_label no_label) =
    spelled_operand (scalars.Int W1) cond && (is_name yes_label && is_name no_label)
spelled_end (ends.Switch w value other cases) =
    spelled_operand (scalars.Int w) value && (is_name other && list_all (spelled_case w) cases)
spelled_end (ends.Ret None) = true
spelled_end (ends.Ret (Some arg)) = spelled_arg arg
spelled_end ends.Unreachable = true

-- A block has a label and an end; phis and instructions may be absent.
abbrev pub spelled_block : Block → Bool
spelled_block block =
    is_name block.label && (list_all spelled_phi block.phis && (list_all spelled_instr block.body
    && spelled_end block.end))

-- ---- programs

-- The initialiser of a global is a constant under the global's type.
abbrev pub spelled_global : GlobalVar → Bool
spelled_global g = is_name g.name && (spelled_type g.ty && (spelled_const g.ty g.init && spelled_align g.align))

-- An external function has a name; each type that the tree may have as its result or a parameter can be written.
abbrev pub spelled_extern : Extern → Bool
spelled_extern e = is_name e.name

-- A parameter has a name; each type that the tree may have for it can be written.
abbrev pub spelled_param : Param → Bool
spelled_param p = is_name p.name

-- A function has at least one block; parameters may be absent.
abbrev pub spelled_function : Function → Bool
spelled_function f =
    is_name f.name && (list_all spelled_param f.params && (not_empty f.blocks && list_all spelled_block f.blocks))

-- Each global, each external function and each function meets its own rules. There is no rule here that names differ.
abbrev pub spelled_program : Program → Bool
spelled_program p =
    list_all spelled_global p.globals && (list_all spelled_extern p.externs && list_all spelled_function p.functions)
