-- The reading of types, constants and operands is exact for its rule.
use Rattle.std.proofs.Common.{◌≡◌, ℕ, zero, suc, true, false, Bool, List, is_some, refl, codes, ◌||◌}
use Rattle.std.specs.Str.{bytes_eq}
use Rattle.hip_types.specs.declared.number.Scalar.{Scalar}
use Rattle.hip_types.specs.declared.number.Scalar.TheVariants as scalars
use Rattle.hip_types.specs.declared.number.Width.{Width}
use Rattle.hip_types.specs.declared.ty.Ty.{Ty, out-Ty}
use Rattle.hip_types.specs.declared.ty.Ty.TheOpen.{Ty-F}
use Rattle.hip_tokens.specs.Tokens.{Tok, Word, Label, Local, Global, Num, Str, Punctuation, Odd}
use Rattle.hip_grammar.specs.Production.{Production, token, optional}
use Rattle.hip_grammar.specs.Rule.{No}
use Rattle.hip_grammar.specs.Laws.Exact.{never, joined}
use Rattle.hip_grammar.specs.Laws.Productions.{Exact, IsRead, Apart, begins, token_begins, link, part_link, token_read, token_exact, gives_exact, next_exact, then_read, maps_exact, maps_read, either_read, optional_same, separated_read, listed_read, passing_read, begins_by}
use Rattle.hip_tree.specs.declared.constant.Const.{Const}
use Rattle.hip_tree.specs.declared.constant.TypedConst.{TypedConst}
use Rattle.hip_grammar.specs.declared.fault.TextFault.{TextFault}
use Rattle.hip_grammar.specs.Words.{is_word, is_mark, is_local, comma, a_local, too_deep, a_word_of, is_word_of, width_word, scalar_word, type_word}
use Rattle.hip_grammar.specs.Numbers.{a_literal, an_int_const}
use Rattle.hip_grammar.specs.Grammar.{word, maybe_word, array_type, struct_type, type_by, type_within, type, literal_index, a_pointer, gep_inside, gep_const, pointer_by, pointer_within, zero_const, typed_const, const_list, array_const, struct_const, const_by, const_within, scalar_const, register, fixed_operand, operand, arg, index}
use Rattle.hip_grammar.specs.Laws.Apart.{mark_apart, word_apart, local_apart, not_local, not_word_of}

-- [ word ]
pub maybe_word_exact : (w : List ℕ) → Exact (maybe_word w) (is_word w)
unfolding maybe_word
maybe_word_exact w =
    maps_exact (optional (is_word w) (word w)) is_some (is_word w)
    (optional_same (word w) (is_word w) (passing_read (is_word w) never))

-- ---- types

-- `[`, `{` or the word of a scalar type.
abbrev pub begins_type : Tok → Bool
begins_type = joined (is_mark 91) (joined (is_mark 123) (is_word_of type_word))

too_deep_read : {A : Type 0} (b : ℕ) → IsRead (token (too_deep {A = A} b)) (is_mark b) never
too_deep_read b = token_read (too_deep b) (is_mark b) never (λ t e. rw e refl)

array_type_read : (element : Production TextFault Ty) → Exact element never → IsRead (array_type element) (is_mark 91) never
unfolding array_type
array_type_read element p =
    begins _ _ _ (λ _. link _ _ _ (λ count. link _ _ _
    (λ _. part_link _ _ _ p (λ ty. link _ _ _ (λ _. gives_exact _ _)))))

struct_type_read : (field : Production TextFault Ty) → IsRead field begins_type never
    → IsRead (struct_type field) (is_mark 123) never
unfolding struct_type
struct_type_read field p =
    begins _ _ _ (λ _. maps_exact _ _ never (listed_read field comma (is_mark 125) begins_type p
    (mark_apart 44 (is_mark 125) refl) (mark_apart 125 begins_type refl)).exact)

type_by_read : (array struct : Production TextFault Ty) → IsRead array (is_mark 91) never → IsRead struct (is_mark 123) never
    → IsRead (type_by array struct) begins_type never
unfolding type_by
type_by_read array struct p q = either_read array _ (is_mark 91) _ never p
    (either_read struct _ (is_mark 123) _ never q
    (token_read (a_word_of type_word) (is_word_of type_word) never (not_word_of type_word)) (mark_apart 123 _ refl))
    (mark_apart 91 _ refl)

pub type_read : (n : ℕ) → IsRead (type_within n) begins_type never
unfolding type_within
type_read zero = type_by_read _ _ (too_deep_read 91) (too_deep_read 123)
type_read (suc n) =
    type_by_read _ _ (array_type_read (type_within n) (type_read n).exact)
    (struct_type_read (type_within n) (type_read n))

-- ---- constants

-- A number or a word: all that begins a constant under an integer type, and more.
abbrev pub begins_int_const : Tok → Bool
begins_int_const (Num t) = true
begins_int_const (Word t) = true
begins_int_const _ = false

not_int_const : (w : Width) (t : Tok) → begins_int_const t ≡ false → an_int_const w t ≡ No
not_int_const w (Num t) e = absurd cc
not_int_const w (Word t) e = absurd cc
not_int_const w (Label t) e = refl
not_int_const w (Local t) e = refl
not_int_const w (Global t) e = refl
not_int_const w (Str t) e = refl
not_int_const w (Punctuation b) e = refl
not_int_const w (Odd b) e = refl

pub int_const_read : (w : Width) → IsRead (token (an_int_const w)) begins_int_const never
int_const_read w = token_read (an_int_const w) begins_int_const never (not_int_const w)

pub literal_index_read : IsRead literal_index (is_word_of width_word) never
unfolding literal_index
literal_index_read =
    token_begins (a_word_of width_word) _ _ _ (not_word_of width_word) (λ w. token_exact (a_literal w) never)

-- `null` or `zeroinitializer`.
abbrev pub is_pointer_word : List ℕ → Bool
is_pointer_word t = bytes_eq t (codes "null") || bytes_eq t (codes "zeroinitializer")

-- `null`, `zeroinitializer` or a GLOBAL.
abbrev pub begins_pointer : Tok → Bool
begins_pointer (Word t) = is_pointer_word t
begins_pointer (Global t) = true
begins_pointer _ = false

not_pointer_word : (t : List ℕ) (b d : Bool) → bytes_eq t (codes "null") ≡ b
    → bytes_eq t (codes "zeroinitializer") ≡ d
    → (b || d) ≡ false → a_pointer (Word t) ≡ No
not_pointer_word t true d h k e = absurd cc
not_pointer_word t false true h k e = absurd cc
not_pointer_word t false false h k e = rw (h, k) refl

not_pointer : (t : Tok) → begins_pointer t ≡ false → a_pointer t ≡ No
not_pointer (Word t) e = not_pointer_word t _ _ refl refl e
not_pointer (Global t) e = absurd cc
not_pointer (Num t) e = refl
not_pointer (Label t) e = refl
not_pointer (Local t) e = refl
not_pointer (Str t) e = refl
not_pointer (Punctuation b) e = refl
not_pointer (Odd b) e = refl

gep_const_read : (inside : Bool → Production TextFault Const)
    → ((inbounds : Bool) → IsRead (inside inbounds) (is_mark 40) never)
    → IsRead (gep_const inside) (is_word (codes "getelementptr")) never
unfolding gep_const
gep_const_read inside p =
    begins _ _ _ (λ _. next_exact _ _ (is_word (codes "inbounds")) (is_mark 40) never
    (maybe_word_exact (codes "inbounds")) p (word_apart (codes "inbounds") (is_mark 40) refl))

gep_inside_read : (base : Production TextFault Const) (inbounds : Bool) → Exact base never
    → IsRead (gep_inside base inbounds) (is_mark 40) never
unfolding gep_inside
gep_inside_read base inbounds p =
    begins _ _ _ (λ _. part_link _ _ _ (type_read 32).exact
    (λ ty. link _ _ _ (λ _. link _ _ _ (λ _. part_link _ _ _ p (λ from. link _ _ _ (λ _.
    next_exact _ _ comma (is_mark 41) never (separated_read literal_index comma
    (is_word_of width_word) literal_index_read).exact (λ indices. begins _ _ _ (λ _. gives_exact _ _))
    (mark_apart 44 (is_mark 41) refl)))))))

-- `getelementptr`, `null`, `zeroinitializer` or a GLOBAL.
abbrev pub begins_pointer_const : Tok → Bool
begins_pointer_const = joined (is_word (codes "getelementptr")) begins_pointer

pointer_by_read : (inside : Bool → Production TextFault Const)
    → ((inbounds : Bool) → IsRead (inside inbounds) (is_mark 40) never)
    → IsRead (pointer_by inside) begins_pointer_const never
unfolding pointer_by
pointer_by_read inside p =
    either_read _ _ _ begins_pointer never (gep_const_read inside p)
    (token_read a_pointer begins_pointer never not_pointer) (word_apart (codes "getelementptr") begins_pointer refl)

pub pointer_read : (n : ℕ) → IsRead (pointer_within n) begins_pointer_const never
unfolding pointer_within
pointer_read zero = pointer_by_read _ (λ inbounds. too_deep_read 40)
pointer_read (suc n) =
    pointer_by_read _ (λ inbounds. gep_inside_read (pointer_within n) inbounds (pointer_read n).exact)

not_zero : (t : Tok) → is_word (codes "zeroinitializer") t ≡ false → zero_const t ≡ No
not_zero t e = rw e refl

zero_read : IsRead (token zero_const) (is_word (codes "zeroinitializer")) never
zero_read = token_read zero_const _ never not_zero

pub typed_const_read : (value : Ty → Production TextFault Const) → ((ty : Ty) → Exact (value ty) never)
    → IsRead (typed_const value) begins_type never
unfolding typed_const
typed_const_read value p =
    then_read type _ begins_type never (type_read 32) (λ ty. maps_exact (value ty) _ never (p ty))

const_list_read : (open_mark close_mark : ℕ) (value : Ty → Production TextFault Const)
    → ((ty : Ty) → Exact (value ty) never)
    → Apart comma (is_mark close_mark) → Apart (is_mark close_mark) begins_type
    → IsRead (const_list open_mark close_mark value) (is_mark open_mark) never
unfolding const_list
const_list_read open_mark close_mark value p a b =
    begins _ _ _ (λ _. (listed_read (typed_const value) comma (is_mark close_mark) begins_type
    (typed_const_read value p) a b).exact)

array_const_read : (items : Production TextFault (List TypedConst)) → IsRead items (is_mark 91) never
    → IsRead (array_const items) (is_mark 91) never
unfolding array_const
array_const_read items p = maps_read items _ _ _ p

struct_const_read : (items : Production TextFault (List TypedConst)) → IsRead items (is_mark 123) never
    → IsRead (struct_const items) (is_mark 123) never
unfolding struct_const
struct_const_read items p = maps_read items _ _ _ p

const_by_exact : (elements fields : Production TextFault (List TypedConst)) (L : Ty-F Ty) → IsRead elements (is_mark 91) never
    → IsRead fields (is_mark 123) never → Exact (const_by elements fields L) never
unfolding const_by
const_by_exact elements fields (Ty-F.Int w) p q = (int_const_read w).exact
const_by_exact elements fields Ty-F.Ptr p q = (pointer_read 32).exact
const_by_exact elements fields (Ty-F.Array n e) p q =
    (either_read _ _ _ _ never (array_const_read elements p) zero_read
    (mark_apart 91 (is_word (codes "zeroinitializer")) refl)).exact
const_by_exact elements fields (Ty-F.Struct fs) p q =
    (either_read _ _ _ _ never (struct_const_read fields q) zero_read
    (mark_apart 123 (is_word (codes "zeroinitializer")) refl)).exact

pub const_exact : (n : ℕ) (ty : Ty) → Exact (const_within n ty) never
unfolding const_within
const_exact zero ty = const_by_exact _ _ (out-Ty ty) (too_deep_read 91) (too_deep_read 123)
const_exact (suc n) ty = const_by_exact _ _ (out-Ty ty)
    (const_list_read 91 93 (const_within n) (const_exact n) (mark_apart 44 (is_mark 93) refl)
    (mark_apart 93 begins_type refl))
    (const_list_read 123 125 (const_within n) (const_exact n) (mark_apart 44 (is_mark 125) refl)
    (mark_apart 125 begins_type refl))

-- ---- operands

-- A number, a word or a GLOBAL.
abbrev pub begins_const : Tok → Bool
begins_const (Num t) = true
begins_const (Word t) = true
begins_const (Global t) = true
begins_const _ = false

not_number : (w : Width) (t : Tok) → begins_const t ≡ false → an_int_const w t ≡ No
not_number w (Num t) e = absurd cc
not_number w (Word t) e = absurd cc
not_number w (Global t) e = absurd cc
not_number w (Label t) e = refl
not_number w (Local t) e = refl
not_number w (Str t) e = refl
not_number w (Punctuation b) e = refl
not_number w (Odd b) e = refl

begins_pointer_wide : (t : Tok) → begins_const t ≡ false → begins_pointer_const t ≡ false
begins_pointer_wide (Num t) e = absurd cc
begins_pointer_wide (Word t) e = absurd cc
begins_pointer_wide (Global t) e = absurd cc
begins_pointer_wide (Label t) e = refl
begins_pointer_wide (Local t) e = refl
begins_pointer_wide (Str t) e = refl
begins_pointer_wide (Punctuation b) e = refl
begins_pointer_wide (Odd b) e = refl

scalar_const_read : (s : Scalar) → IsRead (scalar_const s) begins_const never
unfolding scalar_const
scalar_const_read (scalars.Int w) = token_read (an_int_const w) begins_const never (not_number w)
scalar_const_read scalars.Ptr = begins_by _ _ begins_const never begins_pointer_wide (pointer_read 32)

register_read : IsRead register is_local never
unfolding register
register_read = maps_read (token a_local) _ is_local never (token_read a_local is_local never not_local)

fixed_operand_read : (s : Scalar) → IsRead (fixed_operand s) begins_const never
unfolding fixed_operand
fixed_operand_read s = maps_read (scalar_const s) _ _ _ (scalar_const_read s)

-- A LOCAL, a number, any word or a GLOBAL: all that begins an operand, and more.
abbrev pub begins_operand : Tok → Bool
begins_operand = joined is_local begins_const

pub operand_read : (s : Scalar) → IsRead (operand s) begins_operand never
unfolding operand
operand_read s =
    either_read register (fixed_operand s) is_local begins_const never register_read (fixed_operand_read s)
    (local_apart begins_const (λ n. refl))

pub arg_read : IsRead arg (is_word_of scalar_word) never
unfolding arg
arg_read =
    token_begins (a_word_of scalar_word) _ _ _ (not_word_of scalar_word)
    (λ s. maps_exact (operand s) _ never (operand_read s).exact)

pub index_read : IsRead index (is_word_of width_word) never
unfolding index
index_read =
    token_begins (a_word_of width_word) _ _ _ (not_word_of width_word)
    (λ w. maps_exact (operand (scalars.Int w)) _ never (operand_read (scalars.Int w)).exact)
