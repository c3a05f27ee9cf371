-- The inserted instructions meet the rules of their places, since the stores that they follow do.
use Rattle.std.proofs.Common.{◌≡◌, ◌⊎◌, inl, inr, ℕ, Bool, true, false, cond, ◌&&◌, List, [], ◌∷◌, ◌++◌, All, Option, None, is_some, refl, sym, ap, ◌∙◌, subst}
use Rattle.std.specs.List.{list_all}
use Rattle.std.proofs.lemmas.List.Elements.{All-nil}
use Rattle.std.proofs.lemmas.Bool.{and_from, and_parts}
use Rattle.std.proofs.lemmas.List.Folds.{list_all-append}
use Rattle.hip_types.specs.Layout.{Fits}
use Rattle.hip_types.specs.Numbers.{bits}
use Rattle.hip_types.specs.declared.number.Bits.{Bits}
use Rattle.hip_types.specs.declared.number.Scalar.{Scalar}
use Rattle.hip_types.specs.declared.number.Scalar.TheVariants.{Int, Ptr}
use Rattle.hip_types.specs.declared.number.Width.TheVariants.{W64}
use Rattle.hip_types.specs.declared.ty.Ty.{Ty}
use Rattle.hip_types.specs.declared.ty.Ty.TheVariants as types
use Rattle.hip_tree.specs.Laws.Levels.{out-Ty-Int}
use Rattle.hip_tree.specs.declared.constant.Const.TheFolds.{fold-roll-Const}
use Rattle.hip_tree.specs.declared.constant.Const.TheVariants as consts
use Rattle.hip_tree.specs.declared.constant.Const.TheViews.{rolls-Int}
use Rattle.hip_tree.specs.declared.instr.Instr.TheVariants.{Store}
use Rattle.hip_tree.specs.declared.instr.Operand.{Operand}
use Rattle.hip_tree.specs.declared.instr.Operand.TheVariants.{Reg, Fixed}
use Rattle.hip_runs.specs.Operands.{scalar_size}
use Rattle.hip_sound.specs.Constants.{has_shape, names_in}
use Rattle.hip_globals.specs.Constants.{types_in}
use Rattle.hip_externs.specs.Externs.{known_signature}
use Rattle.hip_names.specs.Names.{is_among}
use Rattle.hip_sound.specs.Places.{Scope, callee_of, uses_known, use_agrees, uses_agree, signature_agrees, instr_required}
use Rattle.hip_sound.specs.NumberedNames.{global_names}
use Rattle.hip_sound.specs.Registers.{Use, use_of, find_register, used_registers, used_globals, used_constant_types}
use Rattle.hip_sound.specs.Laws.AssignedExact.{all-back}
use Rattle.hip_sound.specs.declared.fault.Place.{Place}
use Rattle.hip_repairs.specs.Repaired.{clwb_name, sfence_name, pmem_flush_name, is_wide, line_flush, range_flush, flush_of, the_fence, is_call_of}

-- ---- the constant of a range's size

const_names : (b : Bits) → names_in (consts.Int b) ≡ []
const_names b = ap names_in (sym (rolls-Int b)) ∙ fold-roll-Const _ _ _ _ _ _ _

const_types : (b : Bits) → types_in (consts.Int b) ≡ []
const_types b = ap types_in (sym (rolls-Int b)) ∙ fold-roll-Const _ _ _ _ _ _ _

const_shape : (n : ℕ) → has_shape (consts.Int (bits W64 n)) (types.Int W64) ≡ true
const_shape n = ap (λ c. has_shape c (types.Int W64)) (sym (rolls-Int (bits W64 n))) ∙ ap (λ (g : Ty → Bool). g (types.Int W64)) (fold-roll-Const _ _ _ _ _ _ _) ∙ rw (out-Ty-Int W64) refl

-- ---- uses without the first

abbrev registered : Scope → List Use → Bool
registered s us = list_all (λ n. is_some (find_register s.registers n)) (used_registers us)

abbrev among_globals : Scope → List (List ℕ) → Bool
among_globals s names = list_all (is_among (global_names s.program)) names

known_second : (s : Scope) (value addr : Operand) (ty : Scalar) → uses_known s (use_of value ty ∷ use_of addr Ptr ∷ []) ≡ true → uses_known s (use_of addr Ptr ∷ []) ≡ true
known_second s (Reg v) addr ty h =
    let both = and_parts (is_some (find_register s.registers v) && registered s (use_of addr Ptr ∷ [])) (among_globals s (used_globals (use_of addr Ptr ∷ []))) h in
    and_from (registered s (use_of addr Ptr ∷ [])) _ (and_parts (is_some (find_register s.registers v)) _ both.0).1 both.1
known_second s (Fixed v) addr ty h =
    let both = and_parts (registered s (use_of addr Ptr ∷ [])) (among_globals s (names_in v ++ used_globals (use_of addr Ptr ∷ []))) h in
    and_from (registered s (use_of addr Ptr ∷ [])) _ both.0
    (and_parts (among_globals s (names_in v)) (among_globals s (used_globals (use_of addr Ptr ∷ []))) (sym (list_all-append (is_among (global_names s.program)) (names_in v) (used_globals (use_of addr Ptr ∷ []))) ∙ both.1)).1

types_second : (value addr : Operand) (ty : Scalar) → All Fits (used_constant_types (use_of value ty ∷ use_of addr Ptr ∷ [])) → All Fits (used_constant_types (use_of addr Ptr ∷ []))
types_second (Reg v) addr ty h = h
types_second (Fixed v) addr ty h = all-back Fits (types_in v) (used_constant_types (use_of addr Ptr ∷ [])) h

-- ---- with the size after them

module _ (n : ℕ) where
  abbrev size_use : Use
  size_use = use_of (Fixed (consts.Int (bits W64 n))) (Int W64)

  known_sized : (s : Scope) (addr : Operand) → uses_known s (use_of addr Ptr ∷ size_use ∷ []) ≡ uses_known s (use_of addr Ptr ∷ [])
  known_sized s (Reg name) = ap (λ ns. registered s (use_of (Reg name) Ptr ∷ []) && among_globals s (ns ++ [])) (const_names (bits W64 n))
  known_sized s (Fixed v) = ap (λ ns. among_globals s (names_in v ++ (ns ++ []))) (const_names (bits W64 n))

  types_sized : (addr : Operand) → used_constant_types (use_of addr Ptr ∷ size_use ∷ []) ≡ used_constant_types (use_of addr Ptr ∷ [])
  types_sized (Reg name) = ap (λ ts. ts ++ []) (const_types (bits W64 n))
  types_sized (Fixed v) = ap (λ ts. types_in v ++ (ts ++ [])) (const_types (bits W64 n))

  agrees_sized : (s : Scope) (addr : Operand) → uses_agree s (use_of addr Ptr ∷ []) ≡ true → uses_agree s (use_of addr Ptr ∷ size_use ∷ []) ≡ true
  agrees_sized s addr h = and_from _ _ (and_parts _ _ h).0 (and_from _ _ (const_shape n) refl)

-- ---- the rules of an inserted instruction

module _ (s : Scope) (place place' : Place) where
  pub fence_check : callee_of s.program sfence_name ≡ known_signature sfence_name → (instr_required s the_fence place).Holds
  fence_check e = (ap is_some e, (All-nil Fits, ap (λ o. signature_agrees None [] o && true) e))

  line_check : (value addr : Operand) (ty : Scalar) (align : Option ℕ) → callee_of s.program clwb_name ≡ known_signature clwb_name → (instr_required s (Store ty value addr align) place').Holds → (instr_required s (line_flush addr) place).Holds
  line_check value addr ty align e h = (
    and_from (uses_known s (use_of addr Ptr ∷ [])) _ (known_second s value addr ty (and_parts (uses_known s (use_of value ty ∷ use_of addr Ptr ∷ [])) true h.0).0) (ap is_some e),
    (
      types_second value addr ty h.1.0,
      and_from (uses_agree s (use_of addr Ptr ∷ [])) _ (and_parts (use_agrees s.registers value ty) _ (and_parts (uses_agree s (use_of value ty ∷ use_of addr Ptr ∷ [])) true h.1.1).0).1
          (ap (λ o. signature_agrees None (record { ty = Ptr; value = addr } ∷ []) o && true) e),
    ),
  )

  range_check : (value addr : Operand) (ty : Scalar) (align : Option ℕ) (n : ℕ) → callee_of s.program pmem_flush_name ≡ known_signature pmem_flush_name → (instr_required s (Store ty value addr align) place').Holds → (instr_required s (range_flush addr n) place).Holds
  range_check value addr ty align n e h = (
    and_from (uses_known s (use_of addr Ptr ∷ size_use n ∷ [])) _ (known_sized n s addr ∙ known_second s value addr ty (and_parts (uses_known s (use_of value ty ∷ use_of addr Ptr ∷ [])) true h.0).0) (ap is_some e),
    (
      subst (All Fits) (sym (types_sized n addr)) (types_second value addr ty h.1.0),
      and_from (uses_agree s (use_of addr Ptr ∷ size_use n ∷ [])) _
          (agrees_sized n s addr (and_parts (use_agrees s.registers value ty) _ (and_parts (uses_agree s (use_of value ty ∷ use_of addr Ptr ∷ [])) true h.1.1).0).1)
          (ap (λ o. signature_agrees None (record { ty = Ptr; value = addr } ∷ record { ty = Int W64; value = Fixed (consts.Int (bits W64 n)) } ∷ []) o && true) e),
    ),
  )

  -- The flush of a store meets the rules of its place.
  pub flush_check : (value addr : Operand) (ty : Scalar) (align : Option ℕ) →
      ((name : List ℕ) → is_call_of name (flush_of ty addr align) ≡ true → (name ≡ clwb_name) ⊎ (name ≡ pmem_flush_name) → callee_of s.program name ≡ known_signature name) →
      (instr_required s (Store ty value addr align) place').Holds → (instr_required s (flush_of ty addr align) place).Holds
  flush_check value addr ty align found h = by_width (is_wide ty align) found
    where
      by_width : (b : Bool) →
          ((name : List ℕ) → is_call_of name (cond b (range_flush addr (scalar_size ty)) (line_flush addr)) ≡ true → (name ≡ clwb_name) ⊎ (name ≡ pmem_flush_name) → callee_of s.program name ≡ known_signature name) →
          (instr_required s (cond b (range_flush addr (scalar_size ty)) (line_flush addr)) place).Holds
      by_width true found = range_check value addr ty align (scalar_size ty) (found pmem_flush_name refl (inr refl)) h
      by_width false found = line_check value addr ty align (found clwb_name refl (inl refl)) h
