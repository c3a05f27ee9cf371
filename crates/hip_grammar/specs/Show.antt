-- The canonical text of a program.
use Rattle.std.specs.Prelude.{ℕ, ◌-◌, ◌^◌, Bool, true, false, ◌==◌, List, [], ◌∷◌, ◌++◌, map, Option, Some, None, codes, nat_lt, if◌then◌else◌}
use Rattle.std.specs.Fmt.{decimal}
use Rattle.std.specs.List.{flat_map}
use Rattle.hip_types.specs.declared.number.Bits.{Bits}
use Rattle.hip_types.specs.declared.number.Width.{Width}
use Rattle.hip_types.specs.declared.number.Width.TheVariants.{W1, W8, W16, W32, W64}
use Rattle.hip_types.specs.declared.ty.Ty.{Ty}
use Rattle.hip_types.specs.declared.ty.Ty.TheFolds.{fold-Ty}
use Rattle.hip_types.specs.declared.ty.Ty.TheOpen.{Ty-F}
use Rattle.hip_tree.specs.declared.block.Block.{Block}
use Rattle.hip_tree.specs.declared.block.Case.{Case}
use Rattle.hip_tree.specs.declared.block.Edge.{Edge}
use Rattle.hip_tree.specs.declared.block.End.{End}
use Rattle.hip_tree.specs.declared.block.End.TheVariants as ends
use Rattle.hip_tree.specs.declared.block.Phi.{Phi}
use Rattle.hip_tree.specs.declared.constant.Const.{Const}
use Rattle.hip_tree.specs.declared.constant.Const.TheFolds.{fold-Const, fold-ConstGep, fold-TypedConst}
use Rattle.hip_tree.specs.declared.constant.Const.TheOpen.{Const-F, ConstGep-F, TypedConst-F}
use Rattle.hip_tree.specs.declared.constant.ConstGep.{ConstGep}
use Rattle.hip_tree.specs.declared.constant.TypedConst.{TypedConst}
use Rattle.hip_tree.specs.declared.instr.Arg.{Arg}
use Rattle.hip_tree.specs.declared.instr.Flag.{Flag}
use Rattle.hip_tree.specs.declared.instr.Flag.TheVariants.{Nuw, Nsw, Exact}
use Rattle.hip_tree.specs.declared.instr.Flags.{Flags}
use Rattle.hip_tree.specs.declared.instr.Instr.{Instr}
use Rattle.hip_tree.specs.declared.instr.Instr.TheVariants as instrs
use Rattle.hip_tree.specs.declared.instr.Operand.{Operand}
use Rattle.hip_tree.specs.declared.instr.Operand.TheVariants as operands
use Rattle.hip_tree.specs.declared.program.Extern.{Extern}
use Rattle.hip_tree.specs.declared.program.Function.{Function}
use Rattle.hip_tree.specs.declared.program.GlobalVar.{GlobalVar}
use Rattle.hip_tree.specs.declared.program.Param.{Param}
use Rattle.hip_tree.specs.declared.program.Program.{Program}
use Rattle.hip_grammar.specs.Words.{width_text, scalar_text, ret_text, binary_text, pred_text, cast_text, flag_text}

-- ---- lists

-- The texts, each with a comma before it.
abbrev pub after_commas : List (List ℕ) → List ℕ
after_commas [] = []
after_commas (t ∷ ts) = codes ", " ++ (t ++ after_commas ts)

-- The texts, with a comma between each two.
abbrev pub commas : List (List ℕ) → List ℕ
commas [] = []
commas (t ∷ ts) = t ++ after_commas ts

-- `[a, b]`, and `[]` of nothing.
abbrev pub bracketed : List (List ℕ) → List ℕ
bracketed ts = codes "[" ++ (commas ts ++ codes "]")

-- `{ a, b }`, and `{}` of nothing.
abbrev pub braced : List (List ℕ) → List ℕ
braced [] = codes "{}"
braced (t ∷ ts) = codes "{ " ++ (commas (t ∷ ts) ++ codes " }")

-- `(a, b)`, and `()` of nothing.
abbrev pub parenthesized : List (List ℕ) → List ℕ
parenthesized ts = codes "(" ++ (commas ts ++ codes ")")

-- ---- types

-- `[3 x i32]`, `{ i64, ptr }`, `{}`.
abbrev pub type_step : Ty-F (List ℕ) → List ℕ
type_step (Ty-F.Int w) = width_text w
type_step Ty-F.Ptr = codes "ptr"
type_step (Ty-F.Array n e) = codes "[" ++ (decimal n ++ (codes " x " ++ (e ++ codes "]")))
type_step (Ty-F.Struct fs) = braced fs

-- The canonical text of a type (LLVM, "Type System").
abbrev pub type_text : Ty → List ℕ
type_text = fold-Ty (List ℕ) type_step

-- ---- constants

-- An integer of one bit: `false` for 0, else `true`.
abbrev pub truth_text : ℕ → List ℕ
truth_text n = if n == 0 then codes "false" else codes "true"

-- The signed value of n below 2^w.
abbrev pub signed_text : ℕ → ℕ → List ℕ
signed_text w n = if nat_lt n (2 ^ (w - 1)) then decimal n else codes "-" ++ decimal (2 ^ w - n)

-- Signed decimal, and `true` and `false` of one bit.
abbrev pub number_text : Width → ℕ → List ℕ
number_text W1 n = truth_text n
number_text W8 n = signed_text 8 n
number_text W16 n = signed_text 16 n
number_text W32 n = signed_text 32 n
number_text W64 n = signed_text 64 n

-- An integer by its own width, without its type.
abbrev pub literal_text : Bits → List ℕ
literal_text b = number_text b.width b.value

-- `i64 5`.
abbrev pub index_text : Bits → List ℕ
index_text b = width_text b.width ++ (codes " " ++ literal_text b)

-- `inbounds ` if it is set, else nothing.
abbrev pub inbounds_text : Bool → List ℕ
inbounds_text true = codes "inbounds "
inbounds_text false = []

-- A constant without its type, by the texts of its items or of its `getelementptr`.
abbrev pub const_step : Const-F (List ℕ) (List ℕ) (List ℕ) → List ℕ
const_step (Const-F.Int b) = literal_text b
const_step Const-F.Null = codes "null"
const_step Const-F.Zero = codes "zeroinitializer"
const_step (Const-F.Address name) = codes "@" ++ name
const_step (Const-F.Gep gep) = gep
const_step (Const-F.Array items) = bracketed items
const_step (Const-F.Struct items) = braced items

-- `getelementptr inbounds (T, ptr C, i64 0, i32 1)`.
abbrev pub gep_step : ConstGep-F (List ℕ) (List ℕ) (List ℕ) → List ℕ
gep_step gep =
    codes "getelementptr " ++ (inbounds_text gep.inbounds ++ (codes "(" ++ (type_text gep.ty ++ (codes ", ptr "
    ++ (gep.base ++ (after_commas (map index_text gep.indices) ++ codes ")"))))))

-- `i64 5`, an item of a list: its type and its constant.
abbrev pub typed_step : TypedConst-F (List ℕ) (List ℕ) (List ℕ) → List ℕ
typed_step item = type_text item.ty ++ (codes " " ++ item.value)

-- The canonical text of a constant, without the type before it (LLVM, "Constants").
abbrev pub const_text : Const → List ℕ
const_text = fold-Const (List ℕ) (List ℕ) (List ℕ) const_step gep_step typed_step

-- The text of a constant `getelementptr`.
abbrev pub gep_text : ConstGep → List ℕ
gep_text = fold-ConstGep (List ℕ) (List ℕ) (List ℕ) const_step gep_step typed_step

-- The text of an item of a list: its type and its constant.
abbrev pub item_text : TypedConst → List ℕ
item_text = fold-TypedConst (List ℕ) (List ℕ) (List ℕ) const_step gep_step typed_step

-- ---- operands

-- `%x`, or a constant without its type.
abbrev pub operand_text : Operand → List ℕ
operand_text (operands.Reg name) = codes "%" ++ name
operand_text (operands.Fixed value) = const_text value

-- `i64 %x`, an operand after its type.
abbrev pub arg_text : Arg → List ℕ
arg_text arg = scalar_text arg.ty ++ (codes " " ++ operand_text arg.value)

-- `, align 8`, in bytes, or nothing if no alignment is written.
abbrev pub align_text : Option ℕ → List ℕ
align_text None = []
align_text (Some n) = codes ", align " ++ decimal n

-- ---- instructions

-- A flag and a space if it is set.
abbrev pub flag_if : Flag → Bool → List ℕ
flag_if flag true = flag_text flag ++ codes " "
flag_if flag false = []

-- `nuw ` before `nsw `, and `exact `.
abbrev pub flags_text : Flags → List ℕ
flags_text flags = flag_if Nuw flags.nuw ++ (flag_if Nsw flags.nsw ++ flag_if Exact flags.exact)

-- `%x = `.
abbrev pub assigned_text : List ℕ → List ℕ
assigned_text dest = codes "%" ++ (dest ++ codes " = ")

-- `%x = ` before a call whose result goes into a register, else nothing.
abbrev pub result_text : Option (List ℕ) → List ℕ
result_text None = []
result_text (Some dest) = assigned_text dest

-- An instruction, without its line feed; `tail` is never written before `call` (LLVM, "Instruction Reference").
abbrev pub instr_text : Instr → List ℕ
instr_text (instrs.Binary dest op flags w a b) =
    assigned_text dest ++ (binary_text op ++ (codes " " ++ (flags_text flags ++ (width_text w ++ (codes " "
    ++ (operand_text a ++ (codes ", " ++ operand_text b)))))))
instr_text (instrs.Compare dest pred ty a b) =
    assigned_text dest ++ (codes "icmp " ++ (pred_text pred ++ (codes " " ++ (scalar_text ty ++ (codes " "
    ++ (operand_text a ++ (codes ", " ++ operand_text b)))))))
instr_text (instrs.Select dest cond ty a b) =
    assigned_text dest ++ (codes "select i1 " ++ (operand_text cond ++ (codes ", " ++ (scalar_text ty ++ (codes " "
    ++ (operand_text a ++ (codes ", " ++ (scalar_text ty ++ (codes " " ++ operand_text b)))))))))
instr_text (instrs.Cast dest op from a to) =
    assigned_text dest ++ (cast_text op ++ (codes " " ++ (scalar_text from ++ (codes " " ++ (operand_text a
    ++ (codes " to " ++ scalar_text to))))))
instr_text (instrs.Alloca dest ty n) = assigned_text dest ++ (codes "alloca " ++ (type_text ty ++ align_text n))
instr_text (instrs.Load dest ty addr n) =
    assigned_text dest ++ (codes "load " ++ (scalar_text ty ++ (codes ", ptr " ++ (operand_text addr ++ align_text n))))
instr_text (instrs.Store ty value addr n) =
    codes "store " ++ (scalar_text ty ++ (codes " " ++ (operand_text value ++ (codes ", ptr " ++ (operand_text addr
    ++ align_text n)))))
instr_text (instrs.Gep dest inbounds ty base indices) =
    assigned_text dest ++ (codes "getelementptr " ++ (inbounds_text inbounds ++ (type_text ty ++ (codes ", ptr "
    ++ (operand_text base ++ after_commas (map arg_text indices))))))
instr_text (instrs.Call dest ret callee args) =
    result_text dest ++ (codes "call " ++ (ret_text ret ++ (codes " @"
    ++ (callee ++ parenthesized (map arg_text args)))))

-- ---- blocks

-- `[ 0, %entry ]`.
abbrev pub edge_text : Edge → List ℕ
edge_text edge = codes "[ " ++ (operand_text edge.value ++ (codes ", %" ++ (edge.label ++ codes " ]")))

-- `%x = phi i64 [ 0, %entry ], [ %y, %loop ]`.
abbrev pub phi_text : Phi → List ℕ
phi_text phi =
    assigned_text phi.dest ++ (codes "phi " ++ (scalar_text phi.ty ++ (codes " " ++ commas (map edge_text phi.edges))))

-- `i64 1, label %a `.
abbrev pub case_text : Case → List ℕ
case_text case = index_text case.value ++ (codes ", label %" ++ (case.label ++ codes " "))

-- The instruction that ends a block, a `switch` with all its cases on one line (LLVM, "Terminator Instructions").
abbrev pub end_text : End → List ℕ
end_text (ends.Br label) = codes "br label %" ++ label
end_text (ends.CondBr cond yes_label no_label) =
    codes "br i1 " ++ (operand_text cond ++ (codes ", label %" ++ (yes_label ++ (codes ", label %" ++ no_label))))
end_text (ends.Switch w value other cases) =
    codes "switch " ++ (width_text w ++ (codes " " ++ (operand_text value ++ (codes ", label %"
    ++ (other ++ (codes " [ " ++ (flat_map case_text cases ++ codes "]")))))))
end_text (ends.Ret None) = codes "ret void"
end_text (ends.Ret (Some arg)) = codes "ret " ++ arg_text arg
end_text ends.Unreachable = codes "unreachable"

-- Two spaces, and a line feed at the end.
abbrev pub line_of : List ℕ → List ℕ
line_of t = codes "  " ++ (t ++ codes "\n")

-- A phi on its line.
abbrev pub phi_line : Phi → List ℕ
phi_line p = line_of (phi_text p)

-- An instruction on its line.
abbrev pub instr_line : Instr → List ℕ
instr_line i = line_of (instr_text i)

-- `entry:` on a line, then a line each for the phis, the instructions and the end.
abbrev pub block_text : Block → List ℕ
block_text block =
    block.label ++ (codes ":\n" ++ (flat_map phi_line block.phis
    ++ (flat_map instr_line block.body ++ line_of (end_text block.end))))

-- ---- programs

-- `, section ".pm"` of a persistent global, nothing of a volatile one.
abbrev pub section_text : Bool → List ℕ
section_text true = codes ", section \".pm\""
section_text false = []

-- `constant ` if the global is one, else `global `.
abbrev pub fixed_text : Bool → List ℕ
fixed_text true = codes "constant "
fixed_text false = codes "global "

-- `@x = global i64 0, section ".pm", align 8` and a line feed. No linkage is written.
abbrev pub global_text : GlobalVar → List ℕ
global_text g =
    codes "@" ++ (g.name ++ (codes " = " ++ (fixed_text g.fixed ++ (type_text g.ty ++ (codes " " ++ (const_text g.init
    ++ (section_text g.persistent ++ (align_text g.align ++ codes "\n"))))))))

-- `declare i64 @f(ptr, i64)` and a line feed.
abbrev pub extern_text : Extern → List ℕ
extern_text e =
    codes "declare " ++ (ret_text e.ret ++ (codes " @" ++ (e.name ++ (parenthesized (map scalar_text e.params)
    ++ codes "\n"))))

-- `i64 %x`, a parameter by its type and its name.
abbrev pub param_text : Param → List ℕ
param_text p = scalar_text p.ty ++ (codes " %" ++ p.name)

-- `define i64 @f(i64 %x) {`, its blocks and `}`, the first and the last on a line each.
abbrev pub function_text : Function → List ℕ
function_text f =
    codes "define " ++ (ret_text f.ret ++ (codes " @" ++ (f.name ++ (parenthesized (map param_text f.params)
    ++ (codes " {\n" ++ (flat_map block_text f.blocks ++ codes "}\n"))))))

-- The globals, then the externs, then the functions.
abbrev pub show : Program → List ℕ
show p = flat_map global_text p.globals ++ (flat_map extern_text p.externs ++ flat_map function_text p.functions)
