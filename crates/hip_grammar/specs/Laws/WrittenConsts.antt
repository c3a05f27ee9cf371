-- The text of a constant reads as the constant, and the text of an operand as the operand.
use Rattle.std.proofs.Common.{◌≡◌, ℕ, zero, suc, Bool, true, false, List, [], ◌∷◌, ◌++◌, map, ◌&&◌, refl, subst, codes}
use Rattle.std.specs.List.{list_all}
use Rattle.std.proofs.lemmas.Bool.{and_parts}
use Rattle.hip_types.specs.declared.number.Bits.{Bits}
use Rattle.hip_types.specs.declared.number.Scalar.{Scalar}
use Rattle.hip_types.specs.declared.number.Scalar.TheVariants as scalars
use Rattle.hip_types.specs.declared.number.Width.{Width}
use Rattle.hip_types.specs.Laws.WidthLaws.{own_width}
use Rattle.hip_types.specs.declared.ty.Ty.{Ty, out-Ty}
use Rattle.hip_types.specs.declared.ty.Ty.TheOpen.{Ty-F}
use Rattle.hip_tokens.specs.Written.{ends_word}
use Rattle.hip_grammar.specs.Rule.{Rule, one, both}
use Rattle.hip_grammar.specs.Production.{Production}
use Rattle.hip_grammar.specs.Laws.Texts.{DerivesText, anything, then_text, last_text, nothing_text, anywhere_text, word_text, word_then, local_text, global_text, mark_text, mark_then, blank_text, left_text, right_text, none_text, some_text}
use Rattle.hip_tree.specs.declared.constant.Const.{Const, out-Const, roll-Const, roll-out-Const}
use Rattle.hip_tree.specs.declared.constant.Const.TheFolds.{fold_out-Const, fold_out-ConstGep, fold_out-TypedConst, map-Const}
use Rattle.hip_tree.specs.declared.constant.Const.TheOpen.{Const-F}
use Rattle.hip_tree.specs.declared.constant.Const.TheVariants as consts
use Rattle.hip_tree.specs.declared.constant.Const.TheVariants.{rolls-Int, rolls-Null, rolls-Zero, rolls-Address, rolls-Gep, rolls-Array, rolls-Struct}
use Rattle.hip_tree.specs.declared.constant.ConstGep.{ConstGep}
use Rattle.hip_tree.specs.declared.constant.TypedConst.{TypedConst}
use Rattle.hip_grammar.specs.declared.fault.TextFault.{TextFault}
use Rattle.hip_tree.specs.declared.instr.Arg.{Arg}
use Rattle.hip_tree.specs.declared.instr.Operand.{Operand}
use Rattle.hip_tree.specs.declared.instr.Operand.TheVariants as operands
use Rattle.hip_grammar.specs.Numbers.{an_int_const}
use Rattle.hip_grammar.specs.Grammar.{maybe_word, literal_index, gep_inside, gep_const, pointer_by, pointer_within, typed_const, const_list, array_const, struct_const, const_by, const_within, scalar_const, register, fixed_operand, operand, arg, index}
use Rattle.hip_grammar.specs.Show.{type_text, after_commas, bracketed, braced, inbounds_text, index_text, const_step, gep_step, typed_step, const_text, gep_text, item_text, operand_text, arg_text}
use Rattle.hip_grammar.specs.Spelling.{not_empty, spelled_type, spelled_gep, spelled_pointer_level, spelled_pointer_within, spelled_int, spelled_array, spelled_struct, spelled_const_by, spelled_item, spelled_const_within, spelled_scalar_const, spelled_operand, spelled_arg, spelled_index, is_int_type}
use Rattle.hip_grammar.specs.Laws.WrittenNumbers.{literal_is, int_const_is}
use Rattle.hip_grammar.specs.Laws.WrittenLists.{separated_are, none_listed, some_listed, listed_are}
use Rattle.hip_grammar.specs.Laws.WrittenTypes.{int_is, scalar_is, type_is}

-- ---- texts by levels

-- The text of a constant that is opened one level.
abbrev level_text : Const-F Const ConstGep TypedConst → List ℕ
level_text level =
    const_step (map-Const Const ConstGep TypedConst (List ℕ) (List ℕ)
    (List ℕ) const_text gep_text item_text level)

by_level : (l : Rule TextFault Const) (c : Const)
    → DerivesText ends_word l (level_text (out-Const c)) (roll-Const (out-Const c))
    → DerivesText ends_word l (const_text c) c
by_level l c p =
    let level : const_text c ≡ level_text (out-Const c) =
    fold_out-Const (List ℕ) (List ℕ) (List ℕ) const_step gep_step typed_step c in
    rw level (subst (λ (d : Const). DerivesText ends_word l (level_text (out-Const c)) d) (roll-out-Const c) p)

-- ---- constant `getelementptr`

literal_index_is : (b : Bits) → true ≡ true → DerivesText ends_word literal_index.rule (index_text b) b
unfolding literal_index
literal_index_is b e =
    then_text _ (int_is b.width) (blank_text 32 refl (literal_is b.width b (own_width b.width))) (λ rest h. refl)

pub all_pass : {A : Type 0} (xs : List A) → list_all (λ x. true) xs ≡ true
all_pass [] = refl
all_pass (x ∷ xs) = all_pass xs

-- `inbounds ` or nothing, and what follows.
pub inbounds_then : {B : Type 0} (f : Bool → Rule TextFault B) (d : List ℕ → Bool) (t : List ℕ) (y : B)
    (inbounds : Bool)
    → DerivesText d (f inbounds) t y
    → DerivesText d (both (maybe_word (codes "inbounds")).rule f) (inbounds_text inbounds ++ t) y
unfolding maybe_word
inbounds_then f d t y true q =
    then_text f {s = codes "inbounds"} {t = 32 ∷ t}
    (last_text _ (some_text (word_text _ (codes "inbounds") refl refl)) (nothing_text anything)) (blank_text 32 refl q)
    (λ rest h. refl)
inbounds_then f d t y false q =
    then_text f {s = []} (last_text _ (none_text _ anything) (nothing_text anything)) q (λ rest h. refl)

module _ (base : Production TextFault Const) (test : Const → Bool)
    (each : (c : Const) → test c ≡ true → DerivesText ends_word base.rule (const_text c) c) where
  inside_is : (inbounds : Bool) (ty : Ty) (c : Const) (indices : List Bits) → spelled_type ty ≡ true
      → test c ≡ true
      → not_empty indices ≡ true
      → DerivesText anything (gep_inside base inbounds).rule
      (codes "(" ++ (type_text ty ++ (codes ", ptr " ++ (const_text c
      ++ (after_commas (map index_text indices) ++ codes ")")))))
      (consts.Gep (record { inbounds = inbounds; ty = ty; base = c; indices = indices }))
  unfolding gep_inside
  inside_is inbounds ty c [] e f some = absurd cc
  inside_is inbounds ty c (i ∷ is) e f some =
      mark_then _ _ 40 refl refl (then_text _ (type_is 32 ty e)
      (mark_then _ _ 44 refl refl (blank_text 32 refl (word_then _ _ (codes "ptr") refl refl
      (then_text _ (each c f) (mark_then _ _ 44 refl refl
      (blank_text 32 refl (then_text _ (separated_are literal_index index_text (λ b. true) literal_index_is i is
      (all_pass (i ∷ is)))
      (last_text _ (mark_text _ 41 refl refl) (nothing_text anything)) (λ rest h. refl)))) (λ rest h. refl)))))
      (λ rest h. refl))

  gep_is : (gep : ConstGep) → spelled_gep test gep ≡ true
      → DerivesText ends_word (gep_const (gep_inside base)).rule (gep_text gep) (consts.Gep gep)
  unfolding gep_const
  gep_is gep e =
      let p = and_parts (spelled_type gep.ty) (test gep.base && not_empty gep.indices) e in
      let q = and_parts (test gep.base) (not_empty gep.indices) p.1 in
      let inside : List ℕ =
      codes "(" ++ (type_text gep.ty ++ (codes ", ptr "
      ++ (const_text gep.base ++ (after_commas (map index_text gep.indices) ++ codes ")")))) in
      let level : gep_text gep ≡ codes "getelementptr " ++ (inbounds_text gep.inbounds ++ inside) =
      fold_out-ConstGep (List ℕ) (List ℕ) (List ℕ) const_step gep_step typed_step gep in
      rw level (anywhere_text ends_word (word_then _ _ (codes "getelementptr") refl refl
      (inbounds_then _ anything inside (consts.Gep gep) gep.inbounds
      (inside_is gep.inbounds gep.ty gep.base gep.indices p.0 q.0 q.1))))

-- ---- constants under `ptr`

pointer_level_is : (inside : Bool → Production TextFault Const) (test : ConstGep → Bool)
    → ((gep : ConstGep) → test gep ≡ true
    → DerivesText ends_word (gep_const inside).rule (gep_text gep) (consts.Gep gep))
    → (level : Const-F Const ConstGep TypedConst) → spelled_pointer_level test level ≡ true
    → DerivesText ends_word (pointer_by inside).rule (level_text level) (roll-Const level)
unfolding pointer_by
pointer_level_is inside test each (Const-F.Int b) e = absurd cc
pointer_level_is inside test each Const-F.Null e = rw rolls-Null (right_text _ (word_text _ (codes "null") refl refl))
pointer_level_is inside test each Const-F.Zero e =
    rw rolls-Zero (right_text _ (word_text _ (codes "zeroinitializer") refl refl))
pointer_level_is inside test each (Const-F.Address name) e =
    rw (rolls-Address name) (right_text _ (global_text _ name e refl))
pointer_level_is inside test each (Const-F.Gep gep) e = rw (rolls-Gep gep) (left_text _ (each gep e))
pointer_level_is inside test each (Const-F.Array items) e = absurd cc
pointer_level_is inside test each (Const-F.Struct items) e = absurd cc

pub pointer_is : (n : ℕ) (c : Const) → spelled_pointer_within n c ≡ true
    → DerivesText ends_word (pointer_within n).rule (const_text c) c
unfolding pointer_within spelled_pointer_within
pointer_is zero c e = by_level _ c (pointer_level_is _ (λ gep. false) (λ gep f. absurd cc) (out-Const c) e)
pointer_is (suc n) c e =
    by_level _ c (pointer_level_is _ (spelled_gep (spelled_pointer_within n))
    (gep_is (pointer_within n) (spelled_pointer_within n) (pointer_is n)) (out-Const c) e)

-- ---- constants under the other types

int_level_is : (w : Width) (level : Const-F Const ConstGep TypedConst) → spelled_int w level ≡ true
    → DerivesText ends_word (one (an_int_const w)) (level_text level) (roll-Const level)
int_level_is w (Const-F.Int b) e = rw (rolls-Int b) (int_const_is w b e)
int_level_is w Const-F.Null e = absurd cc
int_level_is w Const-F.Zero e = rw rolls-Zero (word_text _ (codes "zeroinitializer") refl refl)
int_level_is w (Const-F.Address name) e = absurd cc
int_level_is w (Const-F.Gep gep) e = absurd cc
int_level_is w (Const-F.Array items) e = absurd cc
int_level_is w (Const-F.Struct items) e = absurd cc

module _ (elements fields : Production TextFault (List TypedConst)) (test : List TypedConst → Bool) where
  array_level_is : (n : ℕ) (e : Ty)
      → ((items : List TypedConst) → test items ≡ true
      → DerivesText anything elements.rule (bracketed (map item_text items)) items)
      → (level : Const-F Const ConstGep TypedConst) → spelled_array test level ≡ true
      → DerivesText ends_word (const_by elements fields (Ty-F.Array n e)).rule (level_text level) (roll-Const level)
  unfolding const_by array_const
  array_level_is n t each (Const-F.Int b) e = absurd cc
  array_level_is n t each Const-F.Null e = absurd cc
  array_level_is n t each Const-F.Zero e =
      rw rolls-Zero (right_text _ (word_text _ (codes "zeroinitializer") refl refl))
  array_level_is n t each (Const-F.Address name) e = absurd cc
  array_level_is n t each (Const-F.Gep gep) e = absurd cc
  array_level_is n t each (Const-F.Array items) e =
      rw (rolls-Array items) (left_text _ (anywhere_text ends_word
      (last_text _ (each items e) (nothing_text anything))))
  array_level_is n t each (Const-F.Struct items) e = absurd cc

  struct_level_is : (fs : List Ty)
      → ((items : List TypedConst) → test items ≡ true
      → DerivesText anything fields.rule (braced (map item_text items)) items)
      → (level : Const-F Const ConstGep TypedConst) → spelled_struct test level ≡ true
      → DerivesText ends_word (const_by elements fields (Ty-F.Struct fs)).rule (level_text level) (roll-Const level)
  unfolding const_by struct_const
  struct_level_is fs each (Const-F.Int b) e = absurd cc
  struct_level_is fs each Const-F.Null e = absurd cc
  struct_level_is fs each Const-F.Zero e =
      rw rolls-Zero (right_text _ (word_text _ (codes "zeroinitializer") refl refl))
  struct_level_is fs each (Const-F.Address name) e = absurd cc
  struct_level_is fs each (Const-F.Gep gep) e = absurd cc
  struct_level_is fs each (Const-F.Array items) e = absurd cc
  struct_level_is fs each (Const-F.Struct items) e =
      rw (rolls-Struct items) (left_text _ (anywhere_text ends_word
      (last_text _ (each items e) (nothing_text anything))))

  by_type : ((items : List TypedConst) → test items ≡ true
      → DerivesText anything elements.rule (bracketed (map item_text items)) items)
      → ((items : List TypedConst) → test items ≡ true
      → DerivesText anything fields.rule (braced (map item_text items)) items)
      → (level : Ty-F Ty) (c : Const) → spelled_const_by test level c ≡ true
      → DerivesText ends_word (const_by elements fields level).rule (const_text c) c
  unfolding const_by
  by_type arrays structs (Ty-F.Int w) c e = by_level _ c (int_level_is w (out-Const c) e)
  by_type arrays structs Ty-F.Ptr c e = pointer_is 32 c e
  by_type arrays structs (Ty-F.Array n t) c e = by_level _ c (array_level_is n t arrays (out-Const c) e)
  by_type arrays structs (Ty-F.Struct fs) c e = by_level _ c (struct_level_is fs structs (out-Const c) e)

module _ (value : Ty → Production TextFault Const) (test : Ty → Const → Bool)
    (each : (ty : Ty) (c : Const) → test ty c ≡ true → DerivesText ends_word (value ty).rule (const_text c) c) where
  item_is : (item : TypedConst) → spelled_item test item ≡ true
      → DerivesText ends_word (typed_const value).rule (item_text item) item
  unfolding typed_const
  item_is item e =
      let p = and_parts (spelled_type item.ty) (test item.ty item.value) e in
      let level : item_text item ≡ type_text item.ty ++ (codes " " ++ const_text item.value) =
      fold_out-TypedConst (List ℕ) (List ℕ) (List ℕ) const_step gep_step typed_step item in
      rw level (then_text _ (type_is 32 item.ty p.0)
      (blank_text 32 refl (last_text _ (each item.ty item.value p.1) (nothing_text anything))) (λ rest h. refl))

  brackets_are : (items : List TypedConst) → list_all (spelled_item test) items ≡ true
      → DerivesText anything (const_list 91 93 value).rule (bracketed (map item_text items)) items
  unfolding const_list
  brackets_are items e =
      mark_then _ _ 91 refl refl (listed_are (typed_const value) item_text (spelled_item test) item_is 93 (codes "]")
      (mark_text _ 93 refl refl) (λ rest h. refl) items e)

  braces_are : (items : List TypedConst) → list_all (spelled_item test) items ≡ true
      → DerivesText anything (const_list 123 125 value).rule (braced (map item_text items)) items
  unfolding const_list
  braces_are [] e =
      mark_then _ _ 123 refl refl (none_listed (typed_const value) item_text (spelled_item test) item_is 125 (codes "}")
      (mark_text _ 125 refl refl))
  braces_are (i ∷ is) e =
      mark_then _ _ 123 refl refl (blank_text 32 refl
      (some_listed (typed_const value) item_text (spelled_item test) item_is 125 (codes " }")
      (blank_text 32 refl (mark_text _ 125 refl refl)) (λ rest h. refl) i is e))

pub const_is : (n : ℕ) (ty : Ty) (c : Const) → spelled_const_within n ty c ≡ true
    → DerivesText ends_word (const_within n ty).rule (const_text c) c
unfolding const_within spelled_const_within
const_is zero ty c e = by_type _ _ (λ items. false) (λ items f. absurd cc) (λ items f. absurd cc) (out-Ty ty) c e
const_is (suc n) ty c e =
    by_type _ _ (list_all (spelled_item (spelled_const_within n)))
    (brackets_are (const_within n) (spelled_const_within n) (const_is n))
    (braces_are (const_within n) (spelled_const_within n) (const_is n)) (out-Ty ty) c e

-- ---- operands

scalar_const_is : (s : Scalar) (c : Const) → spelled_scalar_const s c ≡ true
    → DerivesText ends_word (scalar_const s).rule (const_text c) c
unfolding scalar_const
scalar_const_is (scalars.Int w) c e = by_level _ c (int_level_is w (out-Const c) e)
scalar_const_is scalars.Ptr c e = pointer_is 32 c e

pub operand_is : (s : Scalar) (o : Operand) → spelled_operand s o ≡ true
    → DerivesText ends_word (operand s).rule (operand_text o) o
unfolding operand register fixed_operand
operand_is s (operands.Reg name) e = left_text _ (last_text _ (local_text _ name e refl) (nothing_text anything))
operand_is s (operands.Fixed c) e = right_text _ (last_text _ (scalar_const_is s c e) (nothing_text anything))

pub arg_is : (a : Arg) → spelled_arg a ≡ true → DerivesText ends_word arg.rule (arg_text a) a
unfolding arg
arg_is a e =
    then_text _ (scalar_is a.ty) (blank_text 32 refl (last_text _ (operand_is a.ty a.value e) (nothing_text anything)))
    (λ rest h. refl)

index_by : (s : Scalar) (o : Operand) → (is_int_type s && spelled_operand s o) ≡ true
    → DerivesText ends_word index.rule (arg_text (record { ty = s; value = o })) (record { ty = s; value = o })
unfolding index
index_by (scalars.Int w) o e =
    then_text _ (int_is w) (blank_text 32 refl (last_text _ (operand_is (scalars.Int w) o e) (nothing_text anything)))
    (λ rest h. refl)
index_by scalars.Ptr o e = absurd cc

pub index_is : (a : Arg) → spelled_index a ≡ true → DerivesText ends_word index.rule (arg_text a) a
index_is a e = index_by a.ty a.value e
