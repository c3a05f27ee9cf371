-- The rules of an instruction, a phi and a block's end, at their place.
use Rattle.std.specs.Prelude.{ℕ, ◌&&◌, ◌||◌, not, nat_lt, nat_le, Bool, true, false, List, [], ◌∷◌, ◌++◌, map, All, Option, Some, None, is_some, slice_get, if◌then◌else◌}
use Rattle.std.specs.List.{list_all, list_any}
use Rattle.std.specs.Str.{bytes_eq}
use Rattle.hip_types.specs.Layout.{Fits, shape}
use Rattle.hip_types.specs.Widths.{bits_of}
use Rattle.hip_types.specs.declared.number.CastOp.{CastOp}
use Rattle.hip_types.specs.declared.number.CastOp.TheVariants as casts
use Rattle.hip_types.specs.declared.number.Scalar.{Scalar}
use Rattle.hip_types.specs.declared.number.Scalar.TheVariants as scalars
use Rattle.hip_types.specs.declared.ty.Ty.{Ty, out-Ty}
use Rattle.hip_types.specs.declared.ty.Ty.TheOpen.{Ty-F}
use Rattle.hip_types.specs.declared.limits.TheConstants.{DEEPEST_NESTING, LARGEST_TYPE}
use Rattle.hip_tree.specs.declared.constant.Const.{Const, out-Const}
use Rattle.hip_tree.specs.declared.constant.Const.TheOpen.{Const-F}
use Rattle.hip_tree.specs.declared.constant.ConstGep.{ConstGep}
use Rattle.hip_tree.specs.declared.constant.TypedConst.{TypedConst}
use Rattle.hip_tree.specs.declared.instr.Arg.{Arg}
use Rattle.hip_tree.specs.declared.instr.Instr.{Instr}
use Rattle.hip_tree.specs.declared.instr.Instr.TheVariants.{Cast, Alloca, Gep, Call}
use Rattle.hip_tree.specs.declared.instr.Operand.{Operand}
use Rattle.hip_tree.specs.declared.instr.Operand.TheVariants.{Reg, Fixed}
use Rattle.hip_grammar.specs.Words.{type_of}
use Rattle.hip_tree.specs.declared.block.Block.{Block}
use Rattle.hip_tree.specs.declared.block.Case.{Case}
use Rattle.hip_tree.specs.declared.block.Edge.{Edge}
use Rattle.hip_tree.specs.declared.block.End.{End}
use Rattle.hip_tree.specs.declared.block.End.TheVariants.{Switch, Ret}
use Rattle.hip_tree.specs.declared.block.Phi.{Phi}
use Rattle.hip_tree.specs.declared.program.Extern.{Extern}
use Rattle.hip_tree.specs.declared.program.Function.{Function}
use Rattle.hip_tree.specs.declared.program.Program.{Program}
use Rattle.hip_sound.specs.Requirement.{Requirement, asks, asks_true, and_then}
use Rattle.hip_sound.specs.Constants.{goes_in, has_shape}
use Rattle.hip_globals.specs.Constants.{index_of}
use Rattle.hip_sound.specs.Equal.{same_bits, same_operand}
use Rattle.hip_externs.specs.Externs.{Signature}
use Rattle.hip_sound.specs.declared.fault.Fault.TheVariants as breaks
use Rattle.hip_names.specs.Names.{is_among}
use Rattle.hip_sound.specs.NumberedNames.{global_names, label_names}
use Rattle.hip_sound.specs.Registers.{Register, Use, find_register, registers_of, instr_uses, end_uses, phi_uses, end_labels, used_registers, used_globals, used_constant_types}
use Rattle.hip_sound.specs.Types.{same_scalar, same_result, all_pass}
use Rattle.hip_sound.specs.declared.fault.Place.{Place}

-- ---- what can be called

-- The signature in the first declaration of an external function of that name; none if no declaration has it.
abbrev pub extern_of : List Extern → List ℕ → Option Signature
extern_of [] name = None
extern_of (e ∷ es) name =
    if bytes_eq e.name name then Some (record { ret = e.ret; params = e.params }) else extern_of es name

-- The result and the parameters' types of the first function of that name; none if no function has it.
abbrev pub function_of : List Function → List ℕ → Option Signature
function_of [] name = None
function_of (f ∷ fs) name =
    if bytes_eq f.name name then Some (record { ret = f.ret; params = map (λ p. p.ty) f.params })
    else function_of fs name

-- The first signature if it exists, else the second, which may be none.
abbrev pub first_of : Option Signature → Option Signature → Option Signature
first_of (Some s) other = Some s
first_of None other = other

-- The signature of the extern or function of that name.
abbrev pub callee_of : Program → List ℕ → Option Signature
callee_of P name = first_of (extern_of P.externs name) (function_of P.functions name)

-- ---- what the places of a function refer to

-- The program and the function of a place, and the function's registers.
pub record Scope : Type 0 where
  pub program : Program
  pub function : Function
  pub registers : List Register

-- The scope of the places of a function of the program.
abbrev pub scope_of : Program → Function → Scope
scope_of P f = record { program = P; function = f; registers = registers_of f }

-- Each name of the second list is in the first one; true if the second is empty.
abbrev pub are_among : List (List ℕ) → List (List ℕ) → Bool
are_among known names = list_all (is_among known) names

-- The registers and globals that the uses name exist.
abbrev pub uses_known : Scope → List Use → Bool
uses_known s us =
    list_all (λ n. is_some (find_register s.registers n)) (used_registers us)
    && are_among (global_names s.program) (used_globals us)

-- `Fits` as a test: neither the type nor a type in it has too many bytes, and it is not nested too deep.
abbrev pub fits_test : Ty → Bool
fits_test t = nat_le (shape t).largest LARGEST_TYPE && nat_le (shape t).depth DEEPEST_NESTING

-- The requirement that all of these types fit: TooLarge at the place if one does not.
abbrev pub types_fit : List Ty → Place → Requirement
types_fit ts place = asks (All Fits ts) (list_all fits_test ts) breaks.TooLarge place

-- The register that was found has that type; false if none was found, or if it is that of a void call.
abbrev pub has_type : Scalar → Option (Option Scalar) → Bool
has_type ty (Some (Some t)) = same_scalar t ty
has_type ty _ = false

-- A register has the type that its use states, a constant its shape.
abbrev pub use_agrees : List Register → Operand → Scalar → Bool
use_agrees registers (Reg name) ty = has_type ty (find_register registers name)
use_agrees registers (Fixed value) ty = has_shape value (type_of ty)

-- Each operand agrees with the type that its place states.
abbrev pub uses_agree : Scope → List Use → Bool
uses_agree s us = list_all (λ u. use_agrees s.registers u.operand u.ty) us

-- ---- instructions

-- Whether both are integers, and the second has more bits.
abbrev pub widens : Scalar → Scalar → Bool
widens (scalars.Int v) (scalars.Int w) = nat_lt (bits_of v) (bits_of w)
widens _ _ = false

-- The scalar is an integer of some width, and no pointer.
abbrev pub is_integer : Scalar → Bool
is_integer (scalars.Int w) = true
is_integer scalars.Ptr = false

-- `zext` and `sext` widen, `trunc` narrows, the other two go between pointers and integers.
abbrev pub cast_agrees : CastOp → Scalar → Scalar → Bool
cast_agrees casts.Zext from to = widens from to
cast_agrees casts.Sext from to = widens from to
cast_agrees casts.Trunc from to = widens to from
cast_agrees casts.Ptrtoint from to = not (is_integer from) && is_integer to
cast_agrees casts.Inttoptr from to = is_integer from && not (is_integer to)

-- The field that an integer of any width, sign-extended to 64 bits, numbers from 0: none if there is no such field, and
-- none for any other constant, `zeroinitializer` too. (LLVM, "getelementptr", which has an i32 there.)
abbrev pub literal_field : List Ty → Const-F Const ConstGep TypedConst → Option Ty
literal_field fields (Const-F.Int b) = slice_get fields (index_of b)
literal_field fields _ = None

-- The field of a struct that an index names: a register names none, a constant the one that it numbers.
abbrev pub named_field : List Ty → Operand → Option Ty
named_field fields (Reg name) = None
named_field fields (Fixed value) = literal_field fields (out-Const value)

-- The type that an index enters: an array's element, or the field that a literal names.
abbrev pub entered_by : Operand → Ty-F Ty → Option Ty
entered_by index (Ty-F.Array n element) = Some element
entered_by index (Ty-F.Struct fields) = named_field fields index
entered_by index _ = None

-- Each of these indices, if any, enters an aggregate: the first one the type, each other one what the index before it
-- gave.
abbrev pub args_enter : List Arg → Ty → Bool
args_enter [] t = true
args_enter (index ∷ indices) t = goes_in (args_enter indices) (entered_by index.value (out-Ty t))

-- The first index of a `getelementptr` steps over whole values of the type, and each further one enters an aggregate;
-- false without an index. (LLVM, "getelementptr".)
abbrev pub gep_agrees : List Arg → Ty → Bool
gep_agrees [] t = false
gep_agrees (first ∷ indices) t = args_enter indices t

-- A call agrees with a signature in its result, and in the number and the types of its arguments; false if the callee
-- has no signature. (LLVM, "call".)
abbrev pub signature_agrees : Option Scalar → List Arg → Option Signature → Bool
signature_agrees ret args None = false
signature_agrees ret args (Some s) =
    same_result s.ret ret && all_pass (map (λ t a. same_scalar t a) s.params) (map (λ a. a.ty) args)

-- A call without a result has no register; one with a result has one or none.
abbrev pub register_agrees : Option (List ℕ) → Option Scalar → Bool
register_agrees (Some dest) None = false
register_agrees _ _ = true

-- The rules for types of conversions, paths of elements and calls, beyond those of operands; other instructions pass.
abbrev pub instr_agrees : Scope → Instr → Bool
instr_agrees s (Cast dest op from a to) = cast_agrees op from to
instr_agrees s (Gep dest inbounds ty base indices) = gep_agrees indices ty
instr_agrees s (Call dest ret callee args) =
    signature_agrees ret args (callee_of s.program callee) && register_agrees dest ret
instr_agrees s _ = true

-- A declared external function or a function has the callee's name; an instruction that is no call passes.
abbrev pub callee_known : Scope → Instr → Bool
callee_known s (Call dest ret callee args) = is_some (callee_of s.program callee)
callee_known s _ = true

-- The type that an `alloca` makes room for or a `getelementptr` steps over; no other instruction names one of memory.
abbrev pub written_types : Instr → List Ty
written_types (Alloca dest ty align) = ty ∷ []
written_types (Gep dest inbounds ty base indices) = ty ∷ []
written_types _ = []

-- The rules of an instruction, in this order: registers, globals and a callee that it names exist (Unknown), types
-- that are written in it, in constants too, fit (TooLarge), and types agree (Mismatch).
abbrev pub instr_required : Scope → Instr → Place → Requirement
instr_required s i place =
    and_then (asks_true (uses_known s (instr_uses i) && callee_known s i) breaks.Unknown place)
    (and_then (types_fit (written_types i ++ used_constant_types (instr_uses i)) place)
    (asks_true (uses_agree s (instr_uses i) && instr_agrees s i) breaks.Mismatch place))

-- ---- ends

-- A value of the function's result type is returned, or no value if the function is void (LLVM, "ret").
abbrev pub returned_agrees : Option Arg → Option Scalar → Bool
returned_agrees None None = true
returned_agrees (Some arg) (Some ty) = same_scalar arg.ty ty
returned_agrees _ _ = false

-- A `ret` returns what a function with this result has to return; every other end of a block passes.
abbrev pub returns : Option Scalar → End → Bool
returns ret (Ret arg) = returned_agrees arg ret
returns ret _ = true

-- If the end of a block is a `ret`, it returns what the function of the scope has to return.
abbrev pub end_agrees : Scope → End → Bool
end_agrees s e = returns s.function.ret e

-- The test passes at each item of a list with each later one.
abbrev pub each_pair : {A : Type 0} → (A → A → Bool) → List A → Bool
each_pair test [] = true
each_pair test (x ∷ xs) = list_all (test x) xs && each_pair test xs

-- The values of two cases differ, by their number or by their width.
abbrev pub differ : Case → Case → Bool
differ c d = not (same_bits c.value d.value)

-- No two cases of a switch have the same value (LLVM, "switch").
abbrev pub cases_differ : List Case → Bool
cases_differ cases = each_pair differ cases

-- The cases of a switch, without the default; none at any other end of a block.
abbrev pub end_cases : End → List Case
end_cases (Switch width value other cases) = cases
end_cases _ = []

-- The label is that of the entry block, the first one; false if there are no blocks.
abbrev pub is_entry : List Block → List ℕ → Bool
is_entry [] label = false
is_entry (b ∷ bs) label = bytes_eq b.label label

-- The rules of a block's end, in this order: registers, globals and labels that it names exist (Unknown), types that
-- are written in it fit (TooLarge), types agree (Mismatch), values of a switch's cases differ (Duplicate), and it
-- does not name the entry block (BadEdge; LLVM, "Functions": the entry block has no predecessors).
abbrev pub end_required : Scope → End → Place → Requirement
end_required s e place =
    and_then
    (asks_true (uses_known s (end_uses e) && are_among (label_names s.function) (end_labels e)) breaks.Unknown place)
    (and_then (types_fit (used_constant_types (end_uses e)) place)
    (and_then (asks_true (uses_agree s (end_uses e) && end_agrees s e) breaks.Mismatch place)
    (and_then (asks_true (cases_differ (end_cases e)) breaks.Duplicate place)
    (asks_true (not (list_any (is_entry s.function.blocks) (end_labels e))) breaks.BadEdge place))))

-- ---- phis

-- The end of the block names the label.
abbrev pub is_predecessor : List ℕ → Block → Bool
is_predecessor label b = is_among (end_labels b.end) label

-- The labels of the blocks whose end names the label.
abbrev pub predecessors : List Block → List ℕ → List (List ℕ)
predecessors [] label = []
predecessors (b ∷ bs) label = if is_predecessor label b then b.label
    ∷ predecessors bs label else predecessors bs label

-- Two edges with the same label carry the same operand.
abbrev pub carry_alike : Edge → Edge → Bool
carry_alike e d = not (bytes_eq e.label d.label) || same_operand e.value d.value

-- All edges with the same label carry the same operand.
abbrev pub repeats_agree : List Edge → Bool
repeats_agree edges = each_pair carry_alike edges

-- The labels that edges of a phi come from, in order, each as often as it is named.
abbrev pub edge_labels : List Edge → List (List ℕ)
edge_labels edges = map (λ e. e.label) edges

-- The edges name each predecessor, once or more, and nothing else, and edges with the same label carry the same
-- operand. (LLVM, "phi".)
abbrev pub edges_agree : List (List ℕ) → List Edge → Bool
edges_agree before edges =
    are_among (edge_labels edges) before && (are_among before (edge_labels edges) && repeats_agree edges)

-- The rules of a phi of the block of that label, in this order: registers, globals and labels that it names exist
-- (Unknown), types that are written in it fit (TooLarge), operands have its type (Mismatch), and its edges agree with
-- the predecessors of the block (BadEdge).
abbrev pub phi_required : Scope → List ℕ → Phi → Place → Requirement
phi_required s label p place =
    and_then
    (asks_true (uses_known s (phi_uses p) && are_among (label_names s.function) (edge_labels p.edges)) breaks.Unknown
    place)
    (and_then (types_fit (used_constant_types (phi_uses p)) place)
    (and_then (asks_true (uses_agree s (phi_uses p)) breaks.Mismatch place)
    (asks_true (edges_agree (predecessors s.function.blocks label) p.edges) breaks.BadEdge place)))
