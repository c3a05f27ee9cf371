-- The grammar of programs: instructions and blocks.
use Rattle.std.specs.Prelude.{ℕ, Bool, true, false, ◌||◌, List, [], ◌∷◌, Option, Some, None, codes}
use Rattle.hip_types.specs.declared.number.BinaryOp.{BinaryOp}
use Rattle.hip_types.specs.declared.number.CastOp.TheVariants as casts
use Rattle.hip_types.specs.declared.number.Scalar.{Scalar}
use Rattle.hip_types.specs.declared.number.Scalar.TheVariants as scalars
use Rattle.hip_types.specs.declared.number.Width.{Width}
use Rattle.hip_types.specs.declared.number.Width.TheVariants.{W1}
use Rattle.hip_tokens.specs.Bytes.{byte}
use Rattle.hip_tokens.specs.Tokens.{Tok}
use Rattle.hip_grammar.specs.Reader.{folded}
use Rattle.hip_grammar.specs.Production.{Production, gives, token, ◌>>=◌, either, repeated, optional, passing, one_more_by, separated, listed, phased}
use Rattle.hip_tree.specs.declared.block.Block.{Block}
use Rattle.hip_tree.specs.declared.block.Case.{Case}
use Rattle.hip_tree.specs.declared.block.Edge.{Edge}
use Rattle.hip_tree.specs.declared.block.End.{End}
use Rattle.hip_tree.specs.declared.block.End.TheVariants as ends
use Rattle.hip_tree.specs.declared.block.Phi.{Phi}
use Rattle.hip_grammar.specs.declared.fault.TextFault.{TextFault}
use Rattle.hip_tree.specs.declared.instr.Flag.{Flag}
use Rattle.hip_tree.specs.declared.instr.Flag.TheVariants.{Nuw, Nsw, Exact}
use Rattle.hip_tree.specs.declared.instr.Flags.{Flags}
use Rattle.hip_tree.specs.declared.instr.Instr.{Instr}
use Rattle.hip_tree.specs.declared.instr.Instr.TheVariants as instrs
use Rattle.hip_tree.specs.declared.instr.Operand.{Operand}
use Rattle.hip_grammar.specs.Words.{is_word, is_mark, is_local, comma, a_local, a_global, a_label, a_word_of, is_word_of, ret_word, binary_word, pred_word, cast_text, int_cast_word, flag_word}
use Rattle.hip_grammar.specs.Numbers.{a_literal, an_alignment}
use Rattle.hip_grammar.specs.Grammar.{word, mark, maybe_word, int, scalar, type, is_width, is_scalar, operand, arg, index}

-- ret = "void" | scalar
abbrev pub ret : Production TextFault (Option Scalar)
ret = token (a_word_of ret_word)

-- align = "," "align" NUM
unfoldable pub align : Production TextFault ℕ
align = do
  _ ← mark (byte ",")
  _ ← word (codes "align")
  token an_alignment

-- [ align ]
abbrev pub maybe_align : Production TextFault (Option ℕ)
maybe_align = optional comma align

-- ---- phis

-- LOCAL "=".
unfoldable pub assigned : Production TextFault (List ℕ)
assigned = do
  name ← token a_local
  _ ← mark (byte "=")
  gives name

-- "," LOCAL "]"
unfoldable pub edge_label : Production TextFault (List ℕ)
edge_label = do
  _ ← mark (byte ",")
  label ← token a_local
  _ ← mark (byte "]")
  gives label

-- edge = "[" operand "," LOCAL "]"
unfoldable pub edge : Scalar → Production TextFault Edge
edge s = do
  _ ← mark (byte "[")
  value ← operand s
  label ← edge_label
  gives (record { value = value; label = label })

-- phi = LOCAL "=" "phi" scalar edge { "," edge }, after its LOCAL "="
unfoldable pub phi : List ℕ → Production TextFault Phi
phi dest = do
  _ ← word (codes "phi")
  s ← scalar
  edges ← separated comma (edge s)
  gives (record { dest = dest; ty = s; edges = edges })

-- ---- instructions, those that assign a register after LOCAL "="

-- No flag is set.
abbrev pub no_flags : Flags
no_flags = record { nuw = false; nsw = false; exact = false }

-- These flags and one more; a flag that is set stays set.
abbrev pub with_flag : Flags → Flag → Flags
with_flag f Nuw = record f { nuw = true }
with_flag f Nsw = record f { nsw = true }
with_flag f Exact = record f { exact = true }

-- { flag }, where each is a flag of the operation. Only the set counts, not the order or how often a flag occurs.
unfoldable pub flags : BinaryOp → Production TextFault Flags
flags op = do
  found ← repeated (is_word_of (flag_word op)) (token (a_word_of (flag_word op)))
  gives (folded with_flag no_flags found)

-- binop { flag } int operand "," operand
unfoldable pub binary : List ℕ → Production TextFault Instr
binary dest = do
  op ← token (a_word_of binary_word)
  set ← flags op
  w ← int
  a ← operand (scalars.Int w)
  b ← one_more_by comma (operand (scalars.Int w))
  gives (instrs.Binary dest op set w a b)

-- "icmp" pred scalar operand "," operand
unfoldable pub compare : List ℕ → Production TextFault Instr
compare dest = do
  _ ← word (codes "icmp")
  pred ← token (a_word_of pred_word)
  s ← scalar
  a ← operand s
  b ← one_more_by comma (operand s)
  gives (instrs.Compare dest pred s a b)

-- "," scalar operand, with this type
unfoldable pub next_of_type : Scalar → Production TextFault Operand
next_of_type s = do
  _ ← mark (byte ",")
  _ ← passing (is_scalar s)
  operand s

-- "," arg "," arg, with the first type again as the second
unfoldable pub alternatives : Production TextFault (Scalar × Operand × Operand)
alternatives = do
  _ ← mark (byte ",")
  s ← scalar
  a ← operand s
  b ← next_of_type s
  gives (s, a, b)

-- "select" "i1" operand "," arg "," arg, with the first type again as the second
unfoldable pub select : List ℕ → Production TextFault Instr
select dest = do
  _ ← word (codes "select")
  _ ← word (codes "i1")
  cond ← operand (scalars.Int W1)
  chosen ← alternatives
  gives (instrs.Select dest cond chosen.0 chosen.1 chosen.2)

-- "to" int
unfoldable pub to_int : Production TextFault Width
to_int = do
  _ ← word (codes "to")
  int

-- ("zext" | "sext" | "trunc") int operand "to" int.
unfoldable pub int_cast : List ℕ → Production TextFault Instr
int_cast dest = do
  op ← token (a_word_of int_cast_word)
  w ← int
  a ← operand (scalars.Int w)
  v ← to_int
  gives (instrs.Cast dest op (scalars.Int w) a (scalars.Int v))

-- "ptrtoint" "ptr" operand "to" int
unfoldable pub ptrtoint : List ℕ → Production TextFault Instr
ptrtoint dest = do
  _ ← word (cast_text casts.Ptrtoint)
  _ ← word (codes "ptr")
  a ← operand scalars.Ptr
  w ← to_int
  gives (instrs.Cast dest casts.Ptrtoint scalars.Ptr a (scalars.Int w))

-- "inttoptr" int operand "to" "ptr"
unfoldable pub inttoptr : List ℕ → Production TextFault Instr
inttoptr dest = do
  _ ← word (cast_text casts.Inttoptr)
  w ← int
  a ← operand (scalars.Int w)
  _ ← word (codes "to")
  _ ← word (codes "ptr")
  gives (instrs.Cast dest casts.Inttoptr (scalars.Int w) a scalars.Ptr)

-- "alloca" type [ align ]
unfoldable pub alloca : List ℕ → Production TextFault Instr
alloca dest = do
  _ ← word (codes "alloca")
  ty ← type
  n ← maybe_align
  gives (instrs.Alloca dest ty n)

-- "," "ptr" operand
unfoldable pub next_address : Production TextFault Operand
next_address = do
  _ ← mark (byte ",")
  _ ← word (codes "ptr")
  operand scalars.Ptr

-- "," "ptr" operand [ align ]
unfoldable pub aligned_address : Production TextFault (Operand × Option ℕ)
aligned_address = do
  addr ← next_address
  n ← maybe_align
  gives (addr, n)

-- "load" scalar "," "ptr" operand [ align ]
unfoldable pub load : List ℕ → Production TextFault Instr
load dest = do
  _ ← word (codes "load")
  s ← scalar
  read ← aligned_address
  gives (instrs.Load dest s read.0 read.1)

-- "getelementptr" [ "inbounds" ] type "," "ptr" operand "," index { "," index }
unfoldable pub gep : List ℕ → Production TextFault Instr
gep dest = do
  _ ← word (codes "getelementptr")
  inbounds ← maybe_word (codes "inbounds")
  ty ← type
  base ← next_address
  indices ← one_more_by comma (separated comma index)
  gives (instrs.Gep dest inbounds ty base indices)

-- [ "tail" ] "call" ret GLOBAL "(" [ arg { "," arg } ] ")"
unfoldable pub plain_call : Option (List ℕ) → Production TextFault Instr
plain_call dest = do
  _ ← word (codes "call")
  result ← ret
  callee ← token a_global
  _ ← mark (byte "(")
  args ← listed comma (is_mark (byte ")")) arg
  gives (instrs.Call dest result callee args)

-- [ "tail" ] "call" .., where "tail" is dropped (LLVM, "call": a hint)
unfoldable pub call : Option (List ℕ) → Production TextFault Instr
call dest = do
  _ ← optional (is_word (codes "tail")) (word (codes "tail"))
  plain_call dest

-- "store" scalar operand "," "ptr" operand [ align ]
unfoldable pub store : Production TextFault Instr
store = do
  _ ← word (codes "store")
  s ← scalar
  value ← operand s
  written ← aligned_address
  gives (instrs.Store s value written.0 written.1)

-- The instructions on memory, and calls.
unfoldable pub memory_instr : List ℕ → Production TextFault Instr
memory_instr dest =
    either (is_word (codes "alloca")) (alloca dest)
    (either (is_word (codes "load")) (load dest)
    (either (is_word (codes "getelementptr")) (gep dest)
    (call (Some dest))))

-- A conversion, or what `memory_instr` reads.
unfoldable pub cast_instr : List ℕ → Production TextFault Instr
cast_instr dest =
    either (is_word_of int_cast_word) (int_cast dest)
    (either (is_word (cast_text casts.Ptrtoint)) (ptrtoint dest)
    (either (is_word (cast_text casts.Inttoptr)) (inttoptr dest)
    (memory_instr dest)))

-- An instruction after LOCAL "=".
unfoldable pub value_instr : List ℕ → Production TextFault Instr
value_instr dest =
    either (is_word_of binary_word) (binary dest)
    (either (is_word (codes "icmp")) (compare dest)
    (either (is_word (codes "select")) (select dest)
    (cast_instr dest)))

-- An instruction that assigns no register.
unfoldable pub effect_instr : Production TextFault Instr
effect_instr = either (is_word (codes "store")) store (call None)

-- The cases of instr that begin with LOCAL "=" are taken together, since a front that cases share is a front of each of
-- them.
unfoldable pub assigning_instr : Production TextFault Instr
assigning_instr = do
  dest ← assigned
  value_instr dest

-- instr: LOCAL "=" and one that assigns, or one that does not
unfoldable pub instr : Production TextFault Instr
instr = either is_local assigning_instr effect_instr

-- The first tokens of instructions without a register.
abbrev pub begins_effect : Tok → Bool
begins_effect t = is_word (codes "store") t || (is_word (codes "tail") t || is_word (codes "call") t)

-- The first tokens of instructions.
abbrev pub begins_instr : Tok → Bool
begins_instr t = is_local t || begins_effect t

-- ---- ends of blocks

-- "label" LOCAL
unfoldable pub target : Production TextFault (List ℕ)
target = do
  _ ← word (codes "label")
  token a_local

-- "label" LOCAL, after "br"
unfoldable pub jump : Production TextFault End
jump = do
  label ← target
  gives (ends.Br label)

-- "i1" operand "," "label" LOCAL "," "label" LOCAL
unfoldable pub branch : Production TextFault End
branch = do
  _ ← word (codes "i1")
  cond ← operand (scalars.Int W1)
  yes_label ← one_more_by comma target
  no_label ← one_more_by comma target
  gives (ends.CondBr cond yes_label no_label)

-- "br" "label" LOCAL | "br" "i1" operand "," "label" LOCAL "," "label" LOCAL
unfoldable pub br : Production TextFault End
br = do
  _ ← word (codes "br")
  either (is_word (codes "label")) jump branch

-- int literal "," "label" LOCAL, with the type of the switch
unfoldable pub case : Width → Production TextFault Case
case w = do
  _ ← passing (is_width w)
  value ← token (a_literal w)
  label ← one_more_by comma target
  gives (record { value = value; label = label })

-- "[" { int literal "," "label" LOCAL } "]", where each type is the switch's
unfoldable pub cases : Width → Production TextFault (List Case)
cases w = do
  _ ← mark (byte "[")
  found ← repeated (is_width w) (case w)
  _ ← mark (byte "]")
  gives found

-- "switch" int operand "," "label" LOCAL "[" { int literal "," "label" LOCAL } "]"
unfoldable pub switch : Production TextFault End
switch = do
  _ ← word (codes "switch")
  w ← int
  value ← operand (scalars.Int w)
  other ← one_more_by comma target
  found ← cases w
  gives (ends.Switch w value other found)

-- "void", after "ret"
unfoldable pub ret_void : Production TextFault End
ret_void = do
  _ ← word (codes "void")
  gives (ends.Ret None)

-- `scalar operand`, after `ret`.
unfoldable pub ret_arg : Production TextFault End
ret_arg = do
  value ← arg
  gives (ends.Ret (Some value))

-- "ret" "void" | "ret" arg
unfoldable pub ret_end : Production TextFault End
ret_end = do
  _ ← word (codes "ret")
  either (is_word (codes "void")) ret_void ret_arg

-- "unreachable"
unfoldable pub unreachable : Production TextFault End
unreachable = do
  _ ← word (codes "unreachable")
  gives ends.Unreachable

-- end = br | switch | ret | unreachable
unfoldable pub end : Production TextFault End
end =
    either (is_word (codes "br")) br (either (is_word (codes "switch")) switch
    (either (is_word (codes "ret")) ret_end unreachable))

-- ---- blocks

-- `end`, after the label, the phis and the instructions of its block.
unfoldable pub closing : List ℕ → List Phi → List Instr → Production TextFault Block
closing label phis body = do
  last ← end
  gives (record { label = label; phis = phis; body = body; end = last })

-- { instr } end
unfoldable pub instrs_and_end : List ℕ → List Phi → Production TextFault Block
instrs_and_end label phis = do
  body ← repeated begins_instr instr
  closing label phis body

-- The rest of a block after its first instruction.
unfoldable pub after_first : List ℕ → List Phi → Instr → Production TextFault Block
after_first label phis first = do
  body ← repeated begins_instr instr
  closing label phis (first ∷ body)

-- The rest of a block after a LOCAL "=" that no phi follows: its first instruction assigns that register.
unfoldable pub after_name : List ℕ → List Phi → List ℕ → Production TextFault Block
after_name label phis dest = do
  first ← value_instr dest
  after_first label phis first

-- The rest of a block whose first instruction assigns no register.
unfoldable pub from_effect : List ℕ → List Phi → Production TextFault Block
from_effect label phis = do
  first ← effect_instr
  after_first label phis first

-- The rest of a block with no LOCAL after its phis.
unfoldable pub after_phis : List ℕ → List Phi → Production TextFault Block
after_phis label phis = either begins_effect (from_effect label phis) (closing label phis [])

-- block = LABEL { phi } { instr } end
unfoldable pub block : Production TextFault Block
block = do
  label ← token a_label
  phased is_local assigned (is_word (codes "phi")) phi (after_name label) (after_phis label) (instrs_and_end label)
