-- What the grammar derives of types, constants and operands meets the rules.
use Rattle.std.proofs.Common.{◌≡◌, ℕ, zero, suc, Bool, true, false, not, ◌&&◌, List, Option, Some, None, option_map, [], ◌∷◌, refl, subst, codes}
use Rattle.std.specs.Prelude.{nat_lt, ◌==◌, if◌then◌else◌}
use Rattle.std.specs.Str.{bytes_eq}
use Rattle.std.specs.List.{list_all}
use Rattle.std.proofs.lemmas.Bool.{and_parts}
use Rattle.std.specs.Cmp.Derive.{both_true}
use Rattle.hip_types.specs.Numbers.{bits}
use Rattle.hip_types.specs.Laws.WidthLaws.{own_width}
use Rattle.hip_types.specs.declared.number.Bits.{Bits}
use Rattle.hip_types.specs.declared.number.Scalar.{Scalar}
use Rattle.hip_types.specs.declared.number.Scalar.TheVariants as scalars
use Rattle.hip_types.specs.declared.number.Width.{Width}
use Rattle.hip_types.specs.declared.number.Width.TheVariants.{W1, W8, W16, W32, W64}
use Rattle.hip_types.specs.declared.ty.Ty.{Ty, out-Ty}
use Rattle.hip_types.specs.declared.ty.Ty.TheOpen.{Ty-F}
use Rattle.hip_tokens.specs.Tokens.{Tok, Word, Label, Local, Global, Num}
use Rattle.hip_tokens.specs.Longest.{is_name}
use Rattle.hip_tokens.specs.Formed.{is_formed}
use Rattle.hip_grammar.specs.Rule.{Verdict, Yes, Because, No}
use Rattle.hip_grammar.specs.Production.{Production, token}
use Rattle.hip_grammar.specs.Laws.Yields.{Yields, token_yields, gives_yields, then_yields, after_token, either_yields, optional_yields, separated_yields, listed_yields}
use Rattle.hip_tree.specs.declared.constant.Const.{Const, out-Const}
use Rattle.hip_tree.specs.declared.constant.Const.TheVariants as consts
use Rattle.hip_tree.specs.declared.constant.ConstGep.{ConstGep}
use Rattle.hip_tree.specs.declared.constant.TypedConst.{TypedConst}
use Rattle.hip_grammar.specs.declared.fault.TextFault.{TextFault}
use Rattle.hip_grammar.specs.declared.fault.TextFault.TheVariants.{TooDeep}
use Rattle.hip_grammar.specs.Words.{is_word, is_mark, comma, a_local, a_global, a_label, too_deep, a_word_of, or_no, written_as, scalar_word, type_of, type_word}
use Rattle.hip_grammar.specs.Numbers.{magnitude, is_negative, or_range, below, bits_in_range, value_of, truth_word, a_literal, as_const, an_int_const, a_count, is_alignment, an_alignment}
use Rattle.hip_grammar.specs.Grammar.{array_type, struct_type, type_by, type_within, literal_index, a_pointer, gep_inside, gep_const, pointer_by, pointer_within, zero_const, typed_const, const_list, array_const, struct_const, const_by, const_within, maybe_word, scalar_const, register, fixed_operand, operand, arg, index}
use Rattle.hip_tree.specs.Laws.Levels.{out-Ty-Int, out-Ty-Ptr, out-Ty-Array, out-Ty-Struct, out-Const-Int, out-Const-Null, out-Const-Zero, out-Const-Address, out-Const-Gep, out-Const-Array, out-Const-Struct}
use Rattle.hip_grammar.specs.Spelling.{not_empty, spelled_type_within, of_width, spelled_pointer_level, spelled_pointer_within, spelled_int, spelled_array, spelled_struct, spelled_const_by, spelled_item, spelled_const_within, spelled_scalar_const, spelled_operand, spelled_arg, spelled_index}

-- ---- single tokens

pub yes_is : {A : Type 0} (x y : A) → ◌≡◌ {A = Verdict TextFault A} (Yes x) (Yes y) → x ≡ y
yes_is x y e = cc

pub local_is : (t : Tok) (n : List ℕ) → is_formed t ≡ true → a_local t ≡ Yes n → is_name n ≡ true
local_is (Local x) n f e = subst (λ z. is_name z ≡ true) (yes_is x n e) f
local_is t n f e = absurd cc

pub global_is : (t : Tok) (n : List ℕ) → is_formed t ≡ true → a_global t ≡ Yes n → is_name n ≡ true
global_is (Global x) n f e = subst (λ z. is_name z ≡ true) (yes_is x n e) f
global_is t n f e = absurd cc

pub label_is : (t : Tok) (n : List ℕ) → is_formed t ≡ true → a_label t ≡ Yes n → is_name n ≡ true
label_is (Label x) n f e = subst (λ z. is_name z ≡ true) (yes_is x n e) f
label_is t n f e = absurd cc

-- What holds of each meaning that a table gives to a word holds of the meaning of a token.
pub word_is : {A : Type 0} (f : List ℕ → Option A) (Q : A → Type 0)
    → ((t : List ℕ) (a : A) → or_no (f t) ≡ Yes a → Q a)
    → (t : Tok) (a : A) → is_formed t ≡ true → a_word_of f t ≡ Yes a → Q a
word_is f Q h (Word t) a g e = h t a e
word_is f Q h t a g e = absurd cc

-- What holds of an entry of a table and of the entries after it holds of the value that is found.
pub entry_is : {A : Type 0} (Q : A → Type 0) (b : Bool) (x : A) (o : Option A) (a : A) → Q x
    → (or_no o ≡ Yes a → Q a)
    → or_no (if b then Some x else o) ≡ Yes a → Q a
entry_is Q true x o a q h e = subst Q (yes_is x a e) q
entry_is Q false x o a q h e = h e

pub no_entry : {A : Type 0} (Q : A → Type 0) (a : A) → or_no None ≡ Yes a → Q a
no_entry Q a e = absurd cc

-- A test that all values of a table pass is passed by the value that is found.
pub table_is : {A : Type 0} (test : A → Bool) (text : A → List ℕ) (xs : List A) (t : List ℕ) (a : A)
    → list_all test xs ≡ true → or_no (written_as text xs t) ≡ Yes a → test a ≡ true
table_is test text [] t a h e = absurd cc
table_is test text (x ∷ xs) t a h e =
    let p = and_parts (test x) (list_all test xs) h in
    entry_is (λ z. test z ≡ true) (bytes_eq t (text x)) x (written_as text xs t) a p.0
    (λ k. table_is test text xs t a p.1 k) e

below_is : (limit m n : ℕ) (b : Bool) → nat_lt m limit ≡ b → or_range (if b then Some m else None) ≡ Yes n
    → nat_lt n limit ≡ true
below_is limit m n true h e = subst (λ z. nat_lt z limit ≡ true) (yes_is m n e) h
below_is limit m n false h e = absurd cc

count_by : (b : Bool) (m n : ℕ) → or_range (if b then None else below 67108865 m) ≡ Yes n
    → nat_lt n 67108865 ≡ true
count_by true m n e = absurd cc
count_by false m n e = below_is 67108865 m n (nat_lt m 67108865) refl e

count_is : (t : Tok) (n : ℕ) → is_formed t ≡ true → a_count t ≡ Yes n → nat_lt n 67108865 ≡ true
count_is (Num t) n f e = count_by (is_negative t && not (magnitude t == 0)) (magnitude t) n e
count_is t n f e = absurd cc

alignment_by : (sign small : Bool) (m n : ℕ) → is_alignment m ≡ small
    → or_range (if sign && small then Some m else None) ≡ Yes n → is_alignment n ≡ true
alignment_by true true m n h e = subst (λ z. is_alignment z ≡ true) (yes_is m n e) h
alignment_by true false m n h e = absurd cc
alignment_by false small m n h e = absurd cc

pub alignment_is : (t : Tok) (n : ℕ) → is_formed t ≡ true → an_alignment t ≡ Yes n → is_alignment n ≡ true
alignment_is (Num t) n f e = alignment_by (not (is_negative t)) (is_alignment (magnitude t)) (magnitude t) n refl e
alignment_is t n f e = absurd cc

in_range_is : (w : Width) (o : Option ℕ) (b : Bits) → bits_in_range w o ≡ Yes b → of_width w b ≡ true
in_range_is w (Some n) b e = subst (λ z. of_width w z ≡ true) (yes_is (bits w n) b e) (own_width w)
in_range_is w None b e = absurd cc

truth_is : (w : Width) (t : List ℕ) (b : Bits) → or_no (truth_word w t) ≡ Yes b → of_width w b ≡ true
truth_is W1 t b e =
    entry_is (λ z. of_width W1 z ≡ true) (bytes_eq t (codes "true")) (bits W1 1) _ b refl
    (λ k. entry_is (λ z. of_width W1 z ≡ true) (bytes_eq t (codes "false")) (bits W1 0) _ b refl
    (λ j. no_entry (λ z. of_width W1 z ≡ true) b j) k) e
truth_is W8 t b e = absurd cc
truth_is W16 t b e = absurd cc
truth_is W32 t b e = absurd cc
truth_is W64 t b e = absurd cc

pub literal_is : (w : Width) (t : Tok) (b : Bits) → is_formed t ≡ true → a_literal w t ≡ Yes b
    → of_width w b ≡ true
literal_is w (Num t) b f e = in_range_is w (value_of w t) b e
literal_is w (Word t) b f e = truth_is w t b e
literal_is w t b f e = absurd cc

int_const_by : (w : Width) (z : Bool) (v : Verdict TextFault Bits) (c : Const)
    → ((b : Bits) → v ≡ Yes b → of_width w b ≡ true) → (if z then Yes consts.Zero else as_const v) ≡ Yes c
    → spelled_int w (out-Const c) ≡ true
int_const_by w true v c h e =
    subst (λ z. spelled_int w (out-Const z) ≡ true) (yes_is consts.Zero c e) (rw out-Const-Zero refl)
int_const_by w false (Yes b) c h e =
    subst (λ z. spelled_int w (out-Const z) ≡ true) (yes_is (consts.Int b) c e) (rw (out-Const-Int b) (h b refl))
int_const_by w false (Because why) c h e = absurd cc
int_const_by w false No c h e = absurd cc

int_const_is : (w : Width) (t : Tok) (c : Const) → is_formed t ≡ true → an_int_const w t ≡ Yes c
    → spelled_int w (out-Const c) ≡ true
int_const_is w t c f e =
    int_const_by w (is_word (codes "zeroinitializer") t) (a_literal w t) c (λ b k. literal_is w t b f k) e

-- A fact that holds of `zeroinitializer` holds of the constant that its token gives.
zero_by : (b : Bool) (c : Const) (Q : Const → Type 0) → Q consts.Zero
    → ◌≡◌ {A = Verdict TextFault Const} (if b then Yes consts.Zero else No) (Yes c) → Q c
zero_by true c Q q e = subst Q (yes_is consts.Zero c e) q
zero_by false c Q q e = absurd cc

zero_is : (Q : Const → Type 0) → Q consts.Zero → (t : Tok) (c : Const) → is_formed t ≡ true
    → zero_const t ≡ Yes c → Q c
zero_is Q q t c f e = zero_by (is_word (codes "zeroinitializer") t) c Q q e

simple_by : (n z : Bool) (c : Const) (Q : Const → Type 0) → Q consts.Null → Q consts.Zero
    → ◌≡◌ {A = Verdict TextFault Const} (if n then Yes consts.Null else (if z then Yes consts.Zero else No)) (Yes c)
    → Q c
simple_by true z c Q p q e = subst Q (yes_is consts.Null c e) p
simple_by false z c Q p q e = zero_by z c Q q e

simple_is : (g : ConstGep → Bool) (t : Tok) (c : Const) → is_formed t ≡ true → a_pointer t ≡ Yes c
    → spelled_pointer_level g (out-Const c) ≡ true
simple_is g (Word t) c f e =
    simple_by (bytes_eq t (codes "null")) (bytes_eq t (codes "zeroinitializer")) c
    (λ z. spelled_pointer_level g (out-Const z) ≡ true) (rw out-Const-Null refl) (rw out-Const-Zero refl) e
simple_is g (Global t) c f e =
    subst (λ z. spelled_pointer_level g (out-Const z) ≡ true) (yes_is (consts.Address t) c e)
    (rw (out-Const-Address t) f)
simple_is g t c f e = absurd cc

-- A token that opens one level too many derives nothing.
deep_by : {A : Type 0} (b : Bool) (Q : A → Type 0) (a : A)
    → ◌≡◌ {A = Verdict TextFault A} (if b then Because TooDeep else No) (Yes a) → Q a
deep_by true Q a e = absurd cc
deep_by false Q a e = absurd cc

deep_yields : {A : Type 0} (b : ℕ) (Q : A → Type 0) → Yields (token (too_deep {A = A} b)) Q
deep_yields b Q = token_yields (too_deep b) Q (λ t a f e. deep_by (is_mark b t) Q a e)

-- ---- types

flat_type : (n : ℕ) (s : Scalar) → spelled_type_within n (type_of s) ≡ true
unfolding spelled_type_within
flat_type zero (scalars.Int w) = rw (out-Ty-Int w) refl
flat_type zero scalars.Ptr = rw out-Ty-Ptr refl
flat_type (suc n) (scalars.Int w) = rw (out-Ty-Int w) refl
flat_type (suc n) scalars.Ptr = rw out-Ty-Ptr refl

type_word_by : (n : ℕ) (o : Option Scalar) (ty : Ty) → or_no (option_map type_of o) ≡ Yes ty
    → spelled_type_within n ty ≡ true
type_word_by n (Some s) ty e = subst (λ z. spelled_type_within n z ≡ true) (yes_is (type_of s) ty e) (flat_type n s)
type_word_by n None ty e = absurd cc

array_type_yields : (n : ℕ) → Yields (type_within n) (λ t. spelled_type_within n t ≡ true)
    → Yields (array_type (type_within n)) (λ t. spelled_type_within (suc n) t ≡ true)
unfolding array_type spelled_type_within
array_type_yields n p =
    after_token _ _ _ (λ _. then_yields _ _ _ _ (token_yields a_count (λ c. nat_lt c 67108865 ≡ true) count_is)
    (λ count c. after_token _ _ _ (λ _. then_yields _ _ _ _ p (λ ty t. after_token _ _ _ (λ _.
    gives_yields _ _ (rw (out-Ty-Array count ty) (both_true c t)))))))

struct_type_yields : (n : ℕ) → Yields (type_within n) (λ t. spelled_type_within n t ≡ true)
    → Yields (struct_type (type_within n)) (λ t. spelled_type_within (suc n) t ≡ true)
unfolding struct_type spelled_type_within
struct_type_yields n p =
    after_token _ _ _ (λ _. then_yields _ _ _ _
    (listed_yields comma (is_mark 125) (type_within n) (spelled_type_within n) p)
    (λ fields h. gives_yields _ _ (rw (out-Ty-Struct fields) h)))

type_by_yields : (n : ℕ) (array struct : Production TextFault Ty) → Yields array (λ t. spelled_type_within n t ≡ true)
    → Yields struct (λ t. spelled_type_within n t ≡ true)
    → Yields (type_by array struct) (λ t. spelled_type_within n t ≡ true)
unfolding type_by
type_by_yields n array struct p q =
    either_yields _ array _ _ p (either_yields _ struct _ _ q
    (token_yields (a_word_of type_word) _ (word_is type_word (λ t. spelled_type_within n t ≡ true)
    (λ t ty e. type_word_by n (scalar_word t) ty e))))

pub type_yields : (n : ℕ) → Yields (type_within n) (λ t. spelled_type_within n t ≡ true)
unfolding type_within
type_yields zero = type_by_yields zero _ _ (deep_yields 91 _) (deep_yields 123 _)
type_yields (suc n) =
    type_by_yields (suc n) _ _ (array_type_yields n (type_yields n)) (struct_type_yields n (type_yields n))

-- ---- constants

literal_index_yields : Yields literal_index (λ b. true ≡ true)
unfolding literal_index
literal_index_yields = after_token _ _ _ (λ w. token_yields (a_literal w) _ (λ t b f e. refl))

gep_inside_yields : (n : ℕ) (inbounds : Bool)
    → Yields (pointer_within n) (λ c. spelled_pointer_within n c ≡ true)
    → Yields (gep_inside (pointer_within n) inbounds) (λ c. spelled_pointer_within (suc n) c ≡ true)
unfolding gep_inside spelled_pointer_within
gep_inside_yields n inbounds p =
    after_token _ _ _ (λ _. then_yields _ _ _ _ (type_yields 32)
    (λ ty t. after_token _ _ _ (λ _. after_token _ _ _
    (λ _. then_yields _ _ _ _ p (λ from b. after_token _ _ _ (λ _.
    then_yields _ _ _ _ (separated_yields comma literal_index (λ i. true)
    (λ is. not_empty is ≡ true) literal_index_yields (λ x xs h. refl)) (λ indices i. after_token _ _ _ (λ _.
    gives_yields _ _ (rw (out-Const-Gep (record { inbounds = inbounds; ty = ty; base = from; indices = indices }))
    (both_true t (both_true b i)))))))))))

pub maybe_word_yields : (w : List ℕ) → Yields (maybe_word w) (λ b. Unit {0})
unfolding maybe_word
maybe_word_yields w =
    then_yields _ _ _ _ (optional_yields _ _ (λ u. Unit {0}) (λ o. Unit {0}) (token_yields _ _ (λ t a f e. tt)) tt
    (λ a h. tt)) (λ found h. gives_yields _ _ tt)

gep_const_yields : (inside : Bool → Production TextFault Const) (Q : Const → Type 0)
    → ((inbounds : Bool) → Yields (inside inbounds) Q) → Yields (gep_const inside) Q
unfolding gep_const
gep_const_yields inside Q p =
    after_token _ _ _ (λ _. then_yields _ _ _ _ (maybe_word_yields (codes "inbounds")) (λ inbounds h. p inbounds))

pointer_by_yields : (inside : Bool → Production TextFault Const) (Q : Const → Type 0)
    → ((inbounds : Bool) → Yields (inside inbounds) Q) → Yields (token a_pointer) Q
    → Yields (pointer_by inside) Q
unfolding pointer_by
pointer_by_yields inside Q p q = either_yields _ _ _ Q (gep_const_yields inside Q p) q

simple_yields : (n : ℕ) → Yields (token a_pointer) (λ c. spelled_pointer_within n c ≡ true)
unfolding spelled_pointer_within
simple_yields zero = token_yields a_pointer _ (simple_is (λ gep. false))
simple_yields (suc n) = token_yields a_pointer _ (simple_is _)

pub pointer_yields : (n : ℕ) → Yields (pointer_within n) (λ c. spelled_pointer_within n c ≡ true)
unfolding pointer_within
pointer_yields zero = pointer_by_yields _ _ (λ inbounds. deep_yields 40 _) (simple_yields zero)
pointer_yields (suc n) =
    pointer_by_yields _ _ (λ inbounds. gep_inside_yields n inbounds (pointer_yields n)) (simple_yields (suc n))

typed_const_yields : (value : Ty → Production TextFault Const) (test : Ty → Const → Bool)
    → ((ty : Ty) → Yields (value ty) (λ c. test ty c ≡ true))
    → Yields (typed_const value) (λ item. spelled_item test item ≡ true)
unfolding typed_const
typed_const_yields value test p =
    then_yields _ _ _ _ (type_yields 32) (λ ty t.
    then_yields _ _ _ _ (p ty) (λ c h. gives_yields _ _ (both_true t h)))

const_list_yields : (open_mark close_mark : ℕ) (value : Ty → Production TextFault Const) (test : Ty → Const → Bool)
    → ((ty : Ty) → Yields (value ty) (λ c. test ty c ≡ true))
    → Yields (const_list open_mark close_mark value) (λ items. list_all (spelled_item test) items ≡ true)
unfolding const_list
const_list_yields open_mark close_mark value test p =
    after_token _ _ _ (λ _. listed_yields comma (is_mark close_mark) (typed_const value) (spelled_item test)
    (typed_const_yields value test p))

array_const_yields : (items : Production TextFault (List TypedConst)) (inner : List TypedConst → Bool)
    → Yields items (λ xs. inner xs ≡ true)
    → Yields (array_const items) (λ c. spelled_array inner (out-Const c) ≡ true)
unfolding array_const
array_const_yields items inner p = then_yields _ _ _ _ p (λ xs h. gives_yields _ _ (rw (out-Const-Array xs) h))

struct_const_yields : (items : Production TextFault (List TypedConst)) (inner : List TypedConst → Bool)
    → Yields items (λ xs. inner xs ≡ true)
    → Yields (struct_const items) (λ c. spelled_struct inner (out-Const c) ≡ true)
unfolding struct_const
struct_const_yields items inner p = then_yields _ _ _ _ p (λ xs h. gives_yields _ _ (rw (out-Const-Struct xs) h))

const_by_yields : (elements fields : Production TextFault (List TypedConst)) (inner : List TypedConst → Bool) (L : Ty-F Ty)
    → Yields elements (λ xs. inner xs ≡ true) → Yields fields (λ xs. inner xs ≡ true)
    → Yields (const_by elements fields L) (λ c. spelled_const_by inner L c ≡ true)
unfolding const_by
const_by_yields elements fields inner (Ty-F.Int w) p q = token_yields (an_int_const w) _ (int_const_is w)
const_by_yields elements fields inner Ty-F.Ptr p q = pointer_yields 32
const_by_yields elements fields inner (Ty-F.Array n e) p q =
    either_yields _ _ _ _ (array_const_yields elements inner p)
    (token_yields zero_const _ (zero_is (λ c. spelled_array inner (out-Const c) ≡ true) (rw out-Const-Zero refl)))
const_by_yields elements fields inner (Ty-F.Struct fs) p q =
    either_yields _ _ _ _ (struct_const_yields fields inner q)
    (token_yields zero_const _ (zero_is (λ c. spelled_struct inner (out-Const c) ≡ true) (rw out-Const-Zero refl)))

pub const_yields : (n : ℕ) (ty : Ty) → Yields (const_within n ty) (λ c. spelled_const_within n ty c ≡ true)
unfolding const_within spelled_const_within
const_yields zero ty = const_by_yields _ _ (λ items. false) (out-Ty ty) (deep_yields 91 _) (deep_yields 123 _)
const_yields (suc n) ty =
    const_by_yields _ _ _ (out-Ty ty) (const_list_yields 91 93 (const_within n) (spelled_const_within n)
    (const_yields n)) (const_list_yields 123 125 (const_within n) (spelled_const_within n) (const_yields n))

-- ---- operands

scalar_const_yields : (s : Scalar) → Yields (scalar_const s) (λ c. spelled_scalar_const s c ≡ true)
unfolding scalar_const
scalar_const_yields (scalars.Int w) = token_yields (an_int_const w) _ (int_const_is w)
scalar_const_yields scalars.Ptr = pointer_yields 32

register_yields : (s : Scalar) → Yields register (λ o. spelled_operand s o ≡ true)
unfolding register
register_yields s = then_yields _ _ _ _ (token_yields a_local _ local_is) (λ name n. gives_yields _ _ n)

fixed_operand_yields : (s : Scalar) → Yields (fixed_operand s) (λ o. spelled_operand s o ≡ true)
unfolding fixed_operand
fixed_operand_yields s = then_yields _ _ _ _ (scalar_const_yields s) (λ value h. gives_yields _ _ h)

pub operand_yields : (s : Scalar) → Yields (operand s) (λ o. spelled_operand s o ≡ true)
unfolding operand
operand_yields s = either_yields _ _ _ _ (register_yields s) (fixed_operand_yields s)

pub arg_yields : Yields arg (λ a. spelled_arg a ≡ true)
unfolding arg
arg_yields = after_token _ _ _ (λ s. then_yields _ _ _ _ (operand_yields s) (λ value h. gives_yields _ _ h))

pub index_yields : Yields index (λ a. spelled_index a ≡ true)
unfolding index
index_yields =
    after_token _ _ _ (λ w. then_yields _ _ _ _ (operand_yields (scalars.Int w))
    (λ value h. gives_yields _ _ (both_true refl h)))
