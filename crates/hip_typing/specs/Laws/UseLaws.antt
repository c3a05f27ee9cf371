-- Operands that are verified by tables give the same answers as by the meaning of the tables.
use Rattle.std.specs.Prelude.{ℕ, ◌≡◌, ◌&&◌, Bool, true, false, List, [], ◌∷◌, Option, is_some}
use Rattle.std.specs.List.{list_all}
use Rattle.std.proofs.Common.{refl, sym, ap, ◌∙◌}
use Rattle.std.proofs.lemmas.List.Folds.{list_all-append}
use Rattle.hip_types.specs.declared.number.Scalar.{Scalar}
use Rattle.hip_tree.specs.declared.instr.Operand.{Operand}
use Rattle.hip_tree.specs.declared.instr.Operand.TheVariants.{Reg, Fixed}
use Rattle.hip_sound.specs.Constants.{names_in}
use Rattle.hip_globals.specs.Constants.{types_in}
use Rattle.hip_names.specs.Names.{is_among, Knows}
use Rattle.hip_sound.specs.Places.{Scope, uses_known, uses_agree, use_agrees, fits_test, has_type}
use Rattle.hip_sound.specs.NumberedNames.{global_names}
use Rattle.hip_sound.specs.Registers.{Use, find_register, used_registers, used_globals, used_constant_types}
use Rattle.hip_typing.specs.Seen.Tables.{Finds}
use Rattle.hip_typing.specs.Seen.UsesSeen.{operand_known, operands_known, operand_agrees, operands_agree, operand_fits, operands_fit}

and_assoc : (a b c : Bool) → ((a && b) && c) ≡ (a && (b && c))
and_assoc true b c = refl
and_assoc false b c = refl

and_swap : (a b c : Bool) → (a && (b && c)) ≡ (b && (a && c))
and_swap true true c = refl
and_swap true false c = refl
and_swap false true c = refl
and_swap false false c = refl

-- A table contains all of these names exactly if the list that it knows contains them all.
pub known_alike : (known names asked : List (List ℕ)) → Knows known names
    → list_all (is_among known) asked ≡ list_all (is_among names) asked
known_alike known names [] knows = refl
known_alike known names (x ∷ xs) knows =
    ap (λ b. b && list_all (is_among known) xs) (knows x)
    ∙ ap (λ b. is_among names x && b) (known_alike known names xs knows)

module _ (s : Scope) (names : List (List ℕ)) (values : List (Option Scalar)) (globals : List (List ℕ))
    (finds : Finds names values s.registers) (knows : Knows globals (global_names s.program)) where
  abbrev registered : List (List ℕ) → Bool
  registered ns = list_all (λ n. is_some (find_register s.registers n)) ns

  abbrev global : List (List ℕ) → Bool
  global ns = list_all (is_among (global_names s.program)) ns

  one_more : (o : Operand) (ty : Scalar) (us : List Use)
      → (operand_known names values globals o && (registered (used_registers us) && global (used_globals us))) ≡
      uses_known s (record { operand = o; ty = ty } ∷ us)
  one_more (Reg name) ty us =
      ap (λ o. is_some o && (registered (used_registers us) && global (used_globals us))) (finds.finds name)
      ∙ sym (and_assoc (is_some (find_register s.registers name)) (registered (used_registers us))
      (global (used_globals us)))
  one_more (Fixed value) ty us =
      ap (λ b. b && (registered (used_registers us) && global (used_globals us)))
      (known_alike globals (global_names s.program) (names_in value) knows)
      ∙ and_swap (global (names_in value)) (registered (used_registers us)) (global (used_globals us))
      ∙ ap (λ b. registered (used_registers us) && b)
      (sym (list_all-append (is_among (global_names s.program)) (names_in value) (used_globals us)))

  -- Registers and globals that are used exist.
  pub uses_known-by_tables : (us : List Use) → operands_known names values globals us ≡ uses_known s us
  uses_known-by_tables [] = refl
  uses_known-by_tables (u ∷ us) =
      ap (λ b. operand_known names values globals u.operand && b) (uses_known-by_tables us)
      ∙ one_more u.operand u.ty us

module _ (s : Scope) (names : List (List ℕ)) (values : List (Option Scalar))
    (finds : Finds names values s.registers) where
  agrees_alike : (o : Operand) (ty : Scalar) → operand_agrees names values o ty ≡ use_agrees s.registers o ty
  agrees_alike (Reg name) ty = ap (has_type ty) (finds.finds name)
  agrees_alike (Fixed value) ty = refl

  -- Operands have the types that their places state.
  pub uses_agree-by_tables : (us : List Use) → operands_agree names values us ≡ uses_agree s us
  uses_agree-by_tables [] = refl
  uses_agree-by_tables (u ∷ us) =
      ap (λ b. b && operands_agree names values us) (agrees_alike u.operand u.ty)
      ∙ ap (λ b. use_agrees s.registers u.operand u.ty && b) (uses_agree-by_tables us)

fits_alike : (o : Operand) (ty : Scalar) (us : List Use)
    → (operand_fits o && list_all fits_test (used_constant_types us))
    ≡ list_all fits_test (used_constant_types (record { operand = o; ty = ty } ∷ us))
fits_alike (Reg name) ty us = refl
fits_alike (Fixed value) ty us = sym (list_all-append fits_test (types_in value) (used_constant_types us))

-- The types in the constants fit.
pub uses_fit-is : (us : List Use) → operands_fit us ≡ list_all fits_test (used_constant_types us)
uses_fit-is [] = refl
uses_fit-is (u ∷ us) = ap (λ b. operand_fits u.operand && b) (uses_fit-is us) ∙ fits_alike u.operand u.ty us
