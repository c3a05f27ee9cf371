-- The tokens that the grammar names.
use Rattle.std.specs.Prelude.{ℕ, Bool, true, false, List, [], ◌∷◌, Option, Some, None, is_some, ◌==◌, if◌then◌else◌, codes, option_map}
use Rattle.std.specs.Str.{bytes_eq}
use Rattle.hip_types.specs.declared.number.Width.{Width}
use Rattle.hip_types.specs.declared.number.Width.TheVariants.{W1, W8, W16, W32, W64}
use Rattle.hip_types.specs.declared.number.Scalar.{Scalar}
use Rattle.hip_types.specs.declared.number.Scalar.TheVariants as scalars
use Rattle.hip_types.specs.declared.number.BinaryOp.{BinaryOp}
use Rattle.hip_types.specs.declared.number.BinaryOp.TheVariants as ops
use Rattle.hip_types.specs.declared.number.Pred.{Pred}
use Rattle.hip_types.specs.declared.number.Pred.TheVariants as preds
use Rattle.hip_types.specs.declared.number.CastOp.{CastOp}
use Rattle.hip_types.specs.declared.number.CastOp.TheVariants as casts
use Rattle.hip_types.specs.declared.ty.Ty.{Ty}
use Rattle.hip_types.specs.declared.ty.Ty.TheVariants as types
use Rattle.hip_tokens.specs.Bytes.{byte}
use Rattle.hip_tokens.specs.Tokens.{Tok, Word, Label, Local, Global, Str, Punctuation}
use Rattle.hip_grammar.specs.Rule.{Verdict, Yes, Because, No}
use Rattle.hip_grammar.specs.declared.fault.TextFault.{TextFault}
use Rattle.hip_tree.specs.declared.instr.Flag.{Flag}
use Rattle.hip_tree.specs.declared.instr.Flag.TheVariants.{Nuw, Nsw, Exact}
use Rattle.hip_grammar.specs.declared.fault.TextFault.TheVariants.{Unsupported, TooDeep}

-- Whether the token is this word.
abbrev pub is_word : List ℕ → Tok → Bool
is_word w (Word t) = bytes_eq t w
is_word w _ = false

-- Whether the token is the mark with this byte; an odd byte is no mark.
abbrev pub is_mark : ℕ → Tok → Bool
is_mark b (Punctuation c) = c == b
is_mark b _ = false

-- Whether the token is a LOCAL: `%` and a name.
abbrev pub is_local : Tok → Bool
is_local (Local t) = true
is_local _ = false

-- Whether the token is a GLOBAL: `@` and a name.
abbrev pub is_global : Tok → Bool
is_global (Global t) = true
is_global _ = false

-- Whether the token is a LABEL: a name and `:`.
abbrev pub is_label : Tok → Bool
is_label (Label t) = true
is_label _ = false

-- Whether the token is `,`, which separates operands and items and precedes `section` and `align`.
abbrev pub comma : Tok → Bool
comma = is_mark (byte ",")

-- Any LOCAL, by its name without `%`.
abbrev pub a_local : Tok → Verdict TextFault (List ℕ)
a_local (Local t) = Yes t
a_local _ = No

-- Any GLOBAL, by its name without `@`.
abbrev pub a_global : Tok → Verdict TextFault (List ℕ)
a_global (Global t) = Yes t
a_global _ = No

-- Any LABEL, by its name without `:`.
abbrev pub a_label : Tok → Verdict TextFault (List ℕ)
a_label (Label t) = Yes t
a_label _ = No

-- Any STRING, by the bytes between its quotes, as they are written.
abbrev pub a_string : Tok → Verdict TextFault (List ℕ)
a_string (Str t) = Yes t
a_string _ = No

-- The string after `section`: `.pm`, and any other is unsupported.
abbrev pub a_section : Tok → Verdict TextFault (Unit {0})
a_section (Str t) = if bytes_eq t (codes ".pm") then Yes tt else Because Unsupported
a_section _ = No

-- A bracket, brace or parenthesis that opens a level too many.
abbrev pub too_deep : {A : Type 0} → ℕ → Tok → Verdict TextFault A
too_deep b t = if is_mark b t then Because TooDeep else No

-- The value, or a refusal without a reason of its own if there is none.
abbrev pub or_no : {A : Type 0} → Option A → Verdict TextFault A
or_no (Some x) = Yes x
or_no None = No

-- A word that has a meaning by f, by its meaning; any other token is refused without a reason of its own.
abbrev pub a_word_of : {A : Type 0} → (List ℕ → Option A) → Tok → Verdict TextFault A
a_word_of f (Word t) = or_no (f t)
a_word_of f _ = No

-- Whether the token is a word that has a meaning by f.
abbrev pub is_word_of : {A : Type 0} → (List ℕ → Option A) → Tok → Bool
is_word_of f (Word t) = is_some (f t)
is_word_of f _ = false

-- The first of these values that is written as the word.
abbrev pub written_as : {A : Type 0} → (A → List ℕ) → List A → List ℕ → Option A
written_as text [] t = None
written_as text (x ∷ xs) t = if bytes_eq t (text x) then Some x else written_as text xs t

-- ---- types

-- The word of an integer type: `i` and its width in bits (LLVM, "Integer Type").
abbrev pub width_text : Width → List ℕ
width_text W1 = codes "i1"
width_text W8 = codes "i8"
width_text W16 = codes "i16"
width_text W32 = codes "i32"
width_text W64 = codes "i64"

-- The integer type that the word names, of one of the five widths; none for any other word.
abbrev pub width_word : List ℕ → Option Width
width_word = written_as width_text (W1 ∷ W8 ∷ W16 ∷ W32 ∷ W64 ∷ [])

-- The word of the type of a register's value (LLVM, "Integer Type", "Pointer Type").
abbrev pub scalar_text : Scalar → List ℕ
scalar_text (scalars.Int w) = width_text w
scalar_text scalars.Ptr = codes "ptr"

-- The type of a register's value that the word names, an integer type or `ptr`; none for any other word.
abbrev pub scalar_word : List ℕ → Option Scalar
scalar_word t = if bytes_eq t (codes "ptr") then Some scalars.Ptr else option_map (λ w. scalars.Int w) (width_word t)

-- The word of the type of a result; `void` if there is no result.
abbrev pub ret_text : Option Scalar → List ℕ
ret_text None = codes "void"
ret_text (Some s) = scalar_text s

-- The type of a result that the word names, where `void` names no result; none for any other word.
abbrev pub ret_word : List ℕ → Option (Option Scalar)
ret_word t = if bytes_eq t (codes "void") then Some None else option_map (λ s. Some s) (scalar_word t)

-- The scalar type as a type of values in memory.
abbrev pub type_of : Scalar → Ty
type_of (scalars.Int w) = types.Int w
type_of scalars.Ptr = types.Ptr

-- The type that a word names alone, which is an integer type or `ptr`; none for any other word.
abbrev pub type_word : List ℕ → Option Ty
type_word t = option_map type_of (scalar_word t)

-- ---- operations on integers

-- The word of an operation on integers (LLVM, "Binary Operations", "Bitwise Binary Operations").
abbrev pub binary_text : BinaryOp → List ℕ
binary_text ops.Add = codes "add"
binary_text ops.Sub = codes "sub"
binary_text ops.Mul = codes "mul"
binary_text ops.Udiv = codes "udiv"
binary_text ops.Sdiv = codes "sdiv"
binary_text ops.Urem = codes "urem"
binary_text ops.Srem = codes "srem"
binary_text ops.And = codes "and"
binary_text ops.Or = codes "or"
binary_text ops.Xor = codes "xor"
binary_text ops.Shl = codes "shl"
binary_text ops.Lshr = codes "lshr"
binary_text ops.Ashr = codes "ashr"

-- Every operation on integers, once.
abbrev pub binary_ops : List BinaryOp
binary_ops =
    ops.Add ∷ ops.Sub ∷ ops.Mul ∷ ops.Udiv ∷ ops.Sdiv ∷ ops.Urem ∷ ops.Srem
    ∷ ops.And ∷ ops.Or ∷ ops.Xor ∷ ops.Shl ∷ ops.Lshr ∷ ops.Ashr ∷ []

-- The operation on integers that the word names; none for any other word.
abbrev pub binary_word : List ℕ → Option BinaryOp
binary_word = written_as binary_text binary_ops

-- The word of a predicate of `icmp` (LLVM, "icmp").
abbrev pub pred_text : Pred → List ℕ
pred_text preds.Eq = codes "eq"
pred_text preds.Ne = codes "ne"
pred_text preds.Ugt = codes "ugt"
pred_text preds.Uge = codes "uge"
pred_text preds.Ult = codes "ult"
pred_text preds.Ule = codes "ule"
pred_text preds.Sgt = codes "sgt"
pred_text preds.Sge = codes "sge"
pred_text preds.Slt = codes "slt"
pred_text preds.Sle = codes "sle"

-- Every predicate of `icmp`, once, in the order of LLVM's language reference.
abbrev pub preds_in_order : List Pred
preds_in_order =
    preds.Eq ∷ preds.Ne ∷ preds.Ugt ∷ preds.Uge ∷ preds.Ult ∷ preds.Ule
    ∷ preds.Sgt ∷ preds.Sge ∷ preds.Slt ∷ preds.Sle ∷ []

-- The predicate of `icmp` that the word names; none for any other word.
abbrev pub pred_word : List ℕ → Option Pred
pred_word = written_as pred_text preds_in_order

-- The word of a conversion (LLVM, "Conversion Operations").
abbrev pub cast_text : CastOp → List ℕ
cast_text casts.Zext = codes "zext"
cast_text casts.Sext = codes "sext"
cast_text casts.Trunc = codes "trunc"
cast_text casts.Ptrtoint = codes "ptrtoint"
cast_text casts.Inttoptr = codes "inttoptr"

-- The conversions from an integer type to an integer type.
abbrev pub int_casts : List CastOp
int_casts = casts.Zext ∷ casts.Sext ∷ casts.Trunc ∷ []

-- `zext`, `sext` or `trunc`, if the word is one of these; none for `ptrtoint`, `inttoptr` and any other word.
abbrev pub int_cast_word : List ℕ → Option CastOp
int_cast_word = written_as cast_text int_casts

-- ---- flags of operations on integers

-- The word of a flag: no unsigned wrap, no signed wrap, exact (LLVM, "add", "udiv").
abbrev pub flag_text : Flag → List ℕ
flag_text Nuw = codes "nuw"
flag_text Nsw = codes "nsw"
flag_text Exact = codes "exact"

-- `add`, `sub`, `mul` and `shl`.
abbrev pub may_wrap : BinaryOp → Bool
may_wrap ops.Add = true
may_wrap ops.Sub = true
may_wrap ops.Mul = true
may_wrap ops.Shl = true
may_wrap _ = false

-- `udiv`, `sdiv`, `lshr` and `ashr`.
abbrev pub may_be_exact : BinaryOp → Bool
may_be_exact ops.Udiv = true
may_be_exact ops.Sdiv = true
may_be_exact ops.Lshr = true
may_be_exact ops.Ashr = true
may_be_exact _ = false

-- `nuw` and `nsw` after an operation that may wrap, `exact` after one that may be exact.
abbrev pub flags_after : BinaryOp → List Flag
flags_after op = if may_wrap op then Nuw ∷ Nsw ∷ [] else (if may_be_exact op then Exact ∷ [] else [])

-- The flag that the word names; none for a flag that the operation may not have, and for any other word.
abbrev pub flag_word : BinaryOp → List ℕ → Option Flag
flag_word op = written_as flag_text (flags_after op)

-- ---- words that are read and not kept

-- Private and internal linkage, and `dso_local`, which a global or a function may have
-- (LLVM, "Linkage Types", "Runtime Preemption Specifiers").
abbrev pub link_word : List ℕ → Option (Unit {0})
link_word t =
    if bytes_eq t (codes "private") then Some tt
    else (if bytes_eq t (codes "internal") then Some tt
    else (if bytes_eq t (codes "dso_local") then Some tt
    else None))

-- A word for an address that is not significant, anywhere or within the module (LLVM, "Global Variables").
abbrev pub unnamed_word : List ℕ → Option (Unit {0})
unnamed_word t =
    if bytes_eq t (codes "unnamed_addr") then Some tt
    else (if bytes_eq t (codes "local_unnamed_addr") then Some tt
    else None)

-- A word of linkage, or one for an address that is not significant, as it may follow the `=` of a global.
abbrev pub linkage_word : List ℕ → Option (Unit {0})
linkage_word t = if is_some (link_word t) then Some tt else unnamed_word t

-- What `target` states: the triple or the data layout (LLVM, "Target Triple", "Data Layout").
abbrev pub target_word : List ℕ → Option (Unit {0})
target_word t =
    if bytes_eq t (codes "triple") then Some tt
    else (if bytes_eq t (codes "datalayout") then Some tt
    else None)

-- Whether a global is a `constant`.
abbrev pub fixed_word : List ℕ → Option Bool
fixed_word t =
    if bytes_eq t (codes "global") then Some false
    else (if bytes_eq t (codes "constant") then Some true
    else None)
