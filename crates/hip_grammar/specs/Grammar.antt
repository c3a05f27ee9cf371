-- The grammar of programs: types, constants and operands. Each part has the name of its production, written above it.
use Rattle.std.specs.Prelude.{ℕ, zero, suc, Bool, List, is_some, codes, if◌then◌else◌}
use Rattle.std.specs.Str.{bytes_eq}
use Rattle.hip_types.specs.declared.number.Bits.{Bits}
use Rattle.hip_types.specs.declared.number.Width.{Width}
use Rattle.hip_types.specs.declared.number.Scalar.{Scalar}
use Rattle.hip_types.specs.declared.number.Scalar.TheVariants as scalars
use Rattle.hip_types.specs.declared.ty.Ty.{Ty, out-Ty}
use Rattle.hip_types.specs.declared.ty.Ty.TheOpen.{Ty-F}
use Rattle.hip_types.specs.declared.ty.Ty.TheVariants as types
use Rattle.hip_types.specs.declared.limits.TheConstants.{DEEPEST_NESTING}
use Rattle.hip_tokens.specs.Bytes.{byte}
use Rattle.hip_tokens.specs.Tokens.{Tok, Word, Global}
use Rattle.hip_grammar.specs.Rule.{Verdict, Yes, No}
use Rattle.hip_grammar.specs.Production.{Production, gives, token, ◌>>=◌, either, optional, passing, separated, listed}
use Rattle.hip_tree.specs.declared.constant.Const.{Const}
use Rattle.hip_tree.specs.declared.constant.Const.TheVariants as consts
use Rattle.hip_tree.specs.declared.constant.TypedConst.{TypedConst}
use Rattle.hip_grammar.specs.declared.fault.TextFault.{TextFault}
use Rattle.hip_tree.specs.declared.instr.Arg.{Arg}
use Rattle.hip_tree.specs.declared.instr.Operand.{Operand}
use Rattle.hip_tree.specs.declared.instr.Operand.TheVariants as operands
use Rattle.hip_grammar.specs.Words.{is_word, is_mark, is_local, comma, a_local, too_deep, a_word_of, width_word, width_text, scalar_word, scalar_text, type_word}
use Rattle.hip_grammar.specs.Numbers.{a_literal, an_int_const, a_count}

-- The token that is this word.
abbrev pub word : List ℕ → Production TextFault (Unit {0})
word w = passing (is_word w)

-- A mark, by its byte.
abbrev pub mark : ℕ → Production TextFault (Unit {0})
mark b = passing (is_mark b)

-- [ word ]
unfoldable pub maybe_word : List ℕ → Production TextFault Bool
maybe_word w = do
  found ← optional (is_word w) (word w)
  gives (is_some found)

-- ---- types

-- int = "i1" | "i8" | "i16" | "i32" | "i64"
abbrev pub int : Production TextFault Width
int = token (a_word_of width_word)

-- scalar = int | "ptr"
abbrev pub scalar : Production TextFault Scalar
scalar = token (a_word_of scalar_word)

-- Whether the token is the word of this integer type, where a type is written again.
abbrev pub is_width : Width → Tok → Bool
is_width w = is_word (width_text w)

-- Whether the token is the word of this scalar type, as before the second value of a `select`.
abbrev pub is_scalar : Scalar → Tok → Bool
is_scalar s = is_word (scalar_text s)

-- "[" NUM "x" type "]"
unfoldable pub array_type : Production TextFault Ty → Production TextFault Ty
array_type element = do
  _ ← mark (byte "[")
  count ← token a_count
  _ ← word (codes "x")
  ty ← element
  _ ← mark (byte "]")
  gives (types.Array count ty)

-- "{" [ type { "," type } ] "}"
unfoldable pub struct_type : Production TextFault Ty → Production TextFault Ty
struct_type field = do
  _ ← mark (byte "{")
  fields ← listed comma (is_mark (byte "}")) field
  gives (types.Struct fields)

-- type = scalar | "[" NUM "x" type "]" | "{" [ type { "," type } ] "}"
unfoldable pub type_by : Production TextFault Ty → Production TextFault Ty → Production TextFault Ty
type_by array struct =
    either (is_mark (byte "[")) array (either (is_mark (byte "{")) struct (token (a_word_of type_word)))

-- A type nested at most n levels deep: where no level is left, an opening bracket or brace is too deep.
unfoldable pub type_within : ℕ → Production TextFault Ty
type_within zero = type_by (token (too_deep (byte "["))) (token (too_deep (byte "{")))
type_within (suc n) = type_by (array_type (type_within n)) (struct_type (type_within n))

-- A type, with arrays and structs nested at most `DEEPEST_NESTING` deep, where `{}` is one level.
abbrev pub type : Production TextFault Ty
type = type_within DEEPEST_NESTING

-- ---- constants

-- int literal
unfoldable pub literal_index : Production TextFault Bits
literal_index = do
  w ← int
  token (a_literal w)

-- "null" | "zeroinitializer" | GLOBAL
abbrev pub a_pointer : Tok → Verdict TextFault Const
a_pointer (Word t) =
    if bytes_eq t (codes "null") then Yes consts.Null
    else (if bytes_eq t (codes "zeroinitializer") then Yes consts.Zero
    else No)
a_pointer (Global t) = Yes (consts.Address t)
a_pointer _ = No

-- "(" type "," "ptr" const "," int literal { "," int literal } ")"
unfoldable pub gep_inside : Production TextFault Const → Bool → Production TextFault Const
gep_inside base inbounds = do
  _ ← mark (byte "(")
  ty ← type
  _ ← mark (byte ",")
  _ ← word (codes "ptr")
  from ← base
  _ ← mark (byte ",")
  indices ← separated comma literal_index
  _ ← mark (byte ")")
  gives (consts.Gep (record { inbounds = inbounds; ty = ty; base = from; indices = indices }))

-- "getelementptr" [ "inbounds" ] and what it opens
unfoldable pub gep_const : (Bool → Production TextFault Const) → Production TextFault Const
gep_const inside = do
  _ ← word (codes "getelementptr")
  inbounds ← maybe_word (codes "inbounds")
  inside inbounds

-- A constant under `ptr`.
unfoldable pub pointer_by : (Bool → Production TextFault Const) → Production TextFault Const
pointer_by inside = either (is_word (codes "getelementptr")) (gep_const inside) (token a_pointer)

-- At most n nested `getelementptr`: if no level is left, the parenthesis is too deep.
unfoldable pub pointer_within : ℕ → Production TextFault Const
pointer_within zero = pointer_by (λ inbounds. token (too_deep (byte "(")))
pointer_within (suc n) = pointer_by (gep_inside (pointer_within n))

-- A constant under `ptr`, with at most `DEEPEST_NESTING` nested `getelementptr`.
abbrev pub pointer_const : Production TextFault Const
pointer_const = pointer_within DEEPEST_NESTING

-- "zeroinitializer"
abbrev pub zero_const : Tok → Verdict TextFault Const
zero_const t = if is_word (codes "zeroinitializer") t then Yes consts.Zero else No

-- `type const`.
unfoldable pub typed_const : (Ty → Production TextFault Const) → Production TextFault TypedConst
typed_const value = do
  ty ← type
  c ← value ty
  gives (record { ty = ty; value = c })

-- "[" [ type const { "," type const } ] "]" and the same in braces
unfoldable pub const_list : ℕ → ℕ → (Ty → Production TextFault Const) → Production TextFault (List TypedConst)
const_list open_mark close_mark value = do
  _ ← mark open_mark
  listed comma (is_mark close_mark) (typed_const value)

-- A bracketed list, as the constant of an array.
unfoldable pub array_const : Production TextFault (List TypedConst) → Production TextFault Const
array_const items = do
  elements ← items
  gives (consts.Array elements)

-- A braced list, as the constant of a struct.
unfoldable pub struct_const : Production TextFault (List TypedConst) → Production TextFault Const
struct_const items = do
  fields ← items
  gives (consts.Struct fields)

-- `const`, by the type before it.
unfoldable pub const_by : Production TextFault (List TypedConst) → Production TextFault (List TypedConst) → Ty-F Ty → Production TextFault Const
const_by elements fields (Ty-F.Int w) = token (an_int_const w)
const_by elements fields Ty-F.Ptr = pointer_const
const_by elements fields (Ty-F.Array n e) = either (is_mark (byte "[")) (array_const elements) (token zero_const)
const_by elements fields (Ty-F.Struct fs) = either (is_mark (byte "{")) (struct_const fields) (token zero_const)

-- Bracketed and braced constants nested at most n levels deep.
unfoldable pub const_within : ℕ → Ty → Production TextFault Const
const_within zero ty = const_by (token (too_deep (byte "["))) (token (too_deep (byte "{"))) (out-Ty ty)
const_within (suc n) ty =
    const_by
    (const_list (byte "[") (byte "]") (const_within n))
    (const_list (byte "{") (byte "}") (const_within n))
    (out-Ty ty)

-- `const`, by the type before it, with lists nested at most `DEEPEST_NESTING` deep.
abbrev pub const : Ty → Production TextFault Const
const = const_within DEEPEST_NESTING

-- ---- operands

-- `const` under an integer type or `ptr`, which is no list.
unfoldable pub scalar_const : Scalar → Production TextFault Const
scalar_const (scalars.Int w) = token (an_int_const w)
scalar_const scalars.Ptr = pointer_const

-- LOCAL, as an operand.
unfoldable pub register : Production TextFault Operand
register = do
  name ← token a_local
  gives (operands.Reg name)

-- `const` under the scalar type, as an operand.
unfoldable pub fixed_operand : Scalar → Production TextFault Operand
fixed_operand s = do
  value ← scalar_const s
  gives (operands.Fixed value)

-- operand = LOCAL | const
unfoldable pub operand : Scalar → Production TextFault Operand
operand s = either is_local register (fixed_operand s)

-- arg = scalar operand
unfoldable pub arg : Production TextFault Arg
arg = do
  s ← scalar
  value ← operand s
  gives (record { ty = s; value = value })

-- index = int operand
unfoldable pub index : Production TextFault Arg
index = do
  w ← int
  value ← operand (scalars.Int w)
  gives (record { ty = scalars.Int w; value = value })
