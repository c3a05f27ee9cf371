-- The text of a type reads as the type.
use Rattle.std.proofs.Common.{◌≡◌, ℕ, zero, suc, Bool, true, List, [], ◌∷◌, ◌++◌, map, Option, Some, None, refl, sym, ap, subst, ◌∙◌, codes}
use Rattle.std.specs.Prelude.{nat_lt}
use Rattle.std.specs.List.{list_all}
use Rattle.std.specs.Fmt.{decimal}
use Rattle.std.proofs.lemmas.Bool.{and_parts}
use Rattle.hip_types.specs.declared.number.Width.{Width}
use Rattle.hip_types.specs.declared.number.Width.TheVariants.{W1, W8, W16, W32, W64}
use Rattle.hip_types.specs.declared.number.Scalar.{Scalar}
use Rattle.hip_types.specs.declared.number.Scalar.TheVariants as scalars
use Rattle.hip_types.specs.declared.ty.Ty.{Ty, out-Ty, roll-Ty, roll-out-Ty, fold-roll-Ty, map-Ty}
use Rattle.hip_types.specs.declared.ty.Ty.TheOpen.{Ty-F}
use Rattle.hip_types.specs.declared.ty.Ty.TheVariants as types
use Rattle.hip_types.specs.declared.ty.Ty.TheVariants.{rolls-Int, rolls-Ptr, rolls-Array, rolls-Struct}
use Rattle.hip_tokens.specs.Written.{ends_word}
use Rattle.hip_grammar.specs.Rule.{Rule, one}
use Rattle.hip_grammar.specs.Production.{Production, the}
use Rattle.hip_grammar.specs.Laws.Texts.{DerivesText, anything, then_text, last_text, nothing_text, anywhere_text, word_text, word_then, mark_text, mark_then, blank_text, left_text, right_text}
use Rattle.hip_grammar.specs.declared.fault.TextFault.{TextFault}
use Rattle.hip_grammar.specs.Words.{a_word_of, width_word, scalar_word, ret_word, type_word, type_of, width_text, scalar_text, ret_text}
use Rattle.hip_grammar.specs.Grammar.{is_width, is_scalar, array_type, struct_type, type_by, type_within}
use Rattle.hip_grammar.specs.Show.{type_text, type_step, braced}
use Rattle.hip_grammar.specs.Spelling.{spelled_flat, spelled_level, spelled_type_within}
use Rattle.hip_grammar.specs.Laws.WrittenNumbers.{count_text}
use Rattle.hip_grammar.specs.Laws.WrittenLists.{none_listed, some_listed}

-- ---- scalars

pub int_is : (w : Width) → DerivesText ends_word (one (a_word_of width_word)) (width_text w) w
int_is W1 = word_text _ _ refl refl
int_is W8 = word_text _ _ refl refl
int_is W16 = word_text _ _ refl refl
int_is W32 = word_text _ _ refl refl
int_is W64 = word_text _ _ refl refl

pub width_is : (w : Width) → DerivesText ends_word (one (the {F = TextFault} (is_width w))) (width_text w) tt
width_is W1 = word_text _ _ refl refl
width_is W8 = word_text _ _ refl refl
width_is W16 = word_text _ _ refl refl
width_is W32 = word_text _ _ refl refl
width_is W64 = word_text _ _ refl refl

pub scalar_is : (s : Scalar) → DerivesText ends_word (one (a_word_of scalar_word)) (scalar_text s) s
scalar_is (scalars.Int W1) = word_text _ _ refl refl
scalar_is (scalars.Int W8) = word_text _ _ refl refl
scalar_is (scalars.Int W16) = word_text _ _ refl refl
scalar_is (scalars.Int W32) = word_text _ _ refl refl
scalar_is (scalars.Int W64) = word_text _ _ refl refl
scalar_is scalars.Ptr = word_text _ _ refl refl

pub same_scalar_is : (s : Scalar) → DerivesText ends_word (one (the {F = TextFault} (is_scalar s))) (scalar_text s) tt
same_scalar_is (scalars.Int w) = width_is w
same_scalar_is scalars.Ptr = word_text _ _ refl refl

pub ret_is : (r : Option Scalar) → DerivesText ends_word (one (a_word_of ret_word)) (ret_text r) r
ret_is None = word_text _ _ refl refl
ret_is (Some (scalars.Int W1)) = word_text _ _ refl refl
ret_is (Some (scalars.Int W8)) = word_text _ _ refl refl
ret_is (Some (scalars.Int W16)) = word_text _ _ refl refl
ret_is (Some (scalars.Int W32)) = word_text _ _ refl refl
ret_is (Some (scalars.Int W64)) = word_text _ _ refl refl
ret_is (Some scalars.Ptr) = word_text _ _ refl refl

scalar_type_is : (s : Scalar) → DerivesText ends_word (one (a_word_of type_word)) (scalar_text s) (type_of s)
scalar_type_is (scalars.Int W1) = word_text _ _ refl refl
scalar_type_is (scalars.Int W8) = word_text _ _ refl refl
scalar_type_is (scalars.Int W16) = word_text _ _ refl refl
scalar_type_is (scalars.Int W32) = word_text _ _ refl refl
scalar_type_is (scalars.Int W64) = word_text _ _ refl refl
scalar_type_is scalars.Ptr = word_text _ _ refl refl

-- ---- types

-- The text of a type that is opened one level.
abbrev level_text : Ty-F Ty → List ℕ
level_text level = type_step (map-Ty Ty (List ℕ) type_text level)

text_by_level : (t : Ty) → type_text t ≡ level_text (out-Ty t)
text_by_level t = ap type_text (sym (roll-out-Ty t)) ∙ fold-roll-Ty (List ℕ) type_step (out-Ty t)

by_level : (l : Rule TextFault Ty) (t : Ty) → DerivesText ends_word l (level_text (out-Ty t)) (roll-Ty (out-Ty t))
    → DerivesText ends_word l (type_text t) t
by_level l t p =
    rw (text_by_level t) (subst (λ (u : Ty). DerivesText ends_word l (level_text (out-Ty t)) u) (roll-out-Ty t) p)

scalar_by : (array struct : Production TextFault Ty) (s : Scalar)
    → DerivesText ends_word (type_by array struct).rule (scalar_text s) (type_of s)
unfolding type_by
scalar_by array struct s = right_text _ (right_text _ (scalar_type_is s))

flat_is : (array struct : Production TextFault Ty) (level : Ty-F Ty) → spelled_flat level ≡ true
    → DerivesText ends_word (type_by array struct).rule (level_text level) (roll-Ty level)
flat_is array struct (Ty-F.Int w) e = rw (rolls-Int w) (scalar_by array struct (scalars.Int w))
flat_is array struct Ty-F.Ptr e = rw rolls-Ptr (scalar_by array struct scalars.Ptr)
flat_is array struct (Ty-F.Array n t) e = absurd cc
flat_is array struct (Ty-F.Struct fs) e = absurd cc

module _ (p : Production TextFault Ty) (test : Ty → Bool)
    (each : (t : Ty) → test t ≡ true → DerivesText ends_word p.rule (type_text t) t) where
  array_is : (n : ℕ) (t : Ty) → nat_lt n 67108865 ≡ true → test t ≡ true
      → DerivesText anything (array_type p).rule
      (codes "[" ++ (decimal n ++ (codes " x " ++ (type_text t ++ codes "]"))))
      (types.Array n t)
  unfolding array_type
  array_is n t e f = mark_then _ _ 91 refl refl (then_text _ (count_text n e)
      (blank_text 32 refl (word_then _ _ (codes "x") refl refl
      (then_text _ (each t f) (last_text _ (mark_text _ 93 refl refl) (nothing_text anything)) (λ rest h. refl))))
      (λ rest h. refl))

  struct_is : (fs : List Ty) → list_all test fs ≡ true
      → DerivesText anything (struct_type p).rule (braced (map type_text fs)) (types.Struct fs)
  unfolding struct_type
  struct_is [] e =
      mark_then _ _ 123 refl refl (last_text _
      (none_listed p type_text test each 125 (codes "}") (mark_text _ 125 refl refl)) (nothing_text anything))
  struct_is (t ∷ ts) e =
      mark_then _ _ 123 refl refl (blank_text 32 refl
      (last_text _ (some_listed p type_text test each 125 (codes " }") (blank_text 32 refl (mark_text _ 125 refl refl))
      (λ rest h. refl) t ts e) (nothing_text anything)))

  level_is : (level : Ty-F Ty) → spelled_level test level ≡ true
      → DerivesText ends_word (type_by (array_type p) (struct_type p)).rule (level_text level) (roll-Ty level)
  unfolding type_by
  level_is (Ty-F.Int w) e = rw (rolls-Int w) (right_text _ (right_text _ (scalar_type_is (scalars.Int w))))
  level_is Ty-F.Ptr e = rw rolls-Ptr (right_text _ (right_text _ (scalar_type_is scalars.Ptr)))
  level_is (Ty-F.Array n t) e =
      rw (rolls-Array n t) (left_text _ (anywhere_text ends_word
      (array_is n t ((and_parts (nat_lt n 67108865) (test t) e).0) ((and_parts (nat_lt n 67108865) (test t) e).1))))
  level_is (Ty-F.Struct fs) e =
      rw (rolls-Struct fs) (right_text _ (left_text _ (anywhere_text ends_word (struct_is fs e))))

pub type_is : (n : ℕ) (t : Ty) → spelled_type_within n t ≡ true
    → DerivesText ends_word (type_within n).rule (type_text t) t
unfolding spelled_type_within type_within
type_is zero t e = by_level _ t (flat_is _ _ (out-Ty t) e)
type_is (suc n) t e = by_level _ t (level_is (type_within n) (spelled_type_within n) (type_is n) (out-Ty t) e)
