-- What the verification of an instruction finds by the tables of the code, and that it is what the rules say.
use Rattle.std.specs.Prelude.{ℕ, ◌≡◌, ◌&&◌, Bool, List, ◌++◌, Option, Some, None, is_some, option_map}
use Rattle.std.specs.List.{list_all}
use Rattle.std.proofs.Common.{refl, sym, ap, ◌∙◌}
use Rattle.std.proofs.lemmas.List.Folds.{list_all-append}
use Rattle.hip_types.specs.declared.number.Scalar.{Scalar}
use Rattle.hip_tree.specs.declared.instr.Instr.{Instr}
use Rattle.hip_tree.specs.declared.instr.Instr.TheVariants.{Binary, Compare, Select, Cast, Alloca, Load, Store, Gep, Call}
use Rattle.hip_typing.specs.Seen.Answers.{asked}
use Rattle.hip_sound.specs.Requirement.{or_else}
use Rattle.hip_names.specs.Names.{Knows}
use Rattle.hip_sound.specs.Places.{Scope, uses_known, uses_agree, callee_known, instr_agrees, written_types, signature_agrees, register_agrees, fits_test, instr_required}
use Rattle.hip_sound.specs.NumberedNames.{global_names}
use Rattle.hip_sound.specs.Registers.{instr_uses, used_constant_types}
use Rattle.hip_names.specs.Tables.{value_beside}
use Rattle.hip_typing.specs.Seen.Tables.{Finds, FindsCallees, callee_seen}
use Rattle.hip_typing.specs.Laws.UseLaws.{uses_known-by_tables, uses_agree-by_tables, uses_fit-is}
use Rattle.hip_typing.specs.Seen.UsesSeen.{operands_known, operands_agree, operands_fit, instr_agrees_in, callee_known_in, written_fits}
use Rattle.hip_typing.specs.declared.tables.callees.Callee.{Callee}
use Rattle.hip_sound.specs.declared.fault.Fault.TheVariants as breaks
use Rattle.hip_sound.specs.declared.fault.Finding.{Finding}
use Rattle.hip_sound.specs.declared.fault.Place.{Place}

-- What is found first at an instruction, given whether its names exist, the types written there fit and its types
-- agree, in this order.
abbrev pub found_by : Bool → Bool → Bool → Place → Option Finding
found_by known fits agrees place =
    or_else (asked known breaks.Unknown place)
    (or_else (asked fits breaks.TooLarge place) (asked agrees breaks.Mismatch place))

-- What the verification of an instruction finds by the tables of registers, of globals and of callees.
abbrev pub instr_found : List (List ℕ) → List (Option Scalar) → List (List ℕ) → List (List ℕ)
    → List Callee → Instr →
    Place → Option Finding
instr_found names values globals callee_names callees i place =
    found_by (operands_known names values globals (instr_uses i) && callee_known_in callee_names callees i)
    (written_fits i && operands_fit (instr_uses i))
    (operands_agree names values (instr_uses i) && instr_agrees_in callee_names callees i) place

is_some_seen : (o : Option Callee) → is_some o ≡ is_some (option_map callee_seen o)
is_some_seen None = refl
is_some_seen (Some c) = refl

module _ (s : Scope) (names : List (List ℕ)) (values : List (Option Scalar)) (globals callee_names : List (List ℕ))
    (callees : List Callee) (finds : Finds names values s.registers) (knows : Knows globals (global_names s.program))
    (calls : FindsCallees callee_names callees s.program) where
  callee_alike : (i : Instr) → callee_known_in callee_names callees i ≡ callee_known s i
  callee_alike (Binary dest op flags width a b) = refl
  callee_alike (Compare dest pred ty a b) = refl
  callee_alike (Select dest cond ty a b) = refl
  callee_alike (Cast dest op from a to) = refl
  callee_alike (Alloca dest ty align) = refl
  callee_alike (Load dest ty addr align) = refl
  callee_alike (Store ty value addr align) = refl
  callee_alike (Gep dest inbounds ty base indices) = refl
  callee_alike (Call dest ret callee args) =
      is_some_seen (value_beside callee_names callees callee) ∙ ap is_some (calls.finds callee)

  agrees_alike : (i : Instr) → instr_agrees_in callee_names callees i ≡ instr_agrees s i
  agrees_alike (Binary dest op flags width a b) = refl
  agrees_alike (Compare dest pred ty a b) = refl
  agrees_alike (Select dest cond ty a b) = refl
  agrees_alike (Cast dest op from a to) = refl
  agrees_alike (Alloca dest ty align) = refl
  agrees_alike (Load dest ty addr align) = refl
  agrees_alike (Store ty value addr align) = refl
  agrees_alike (Gep dest inbounds ty base indices) = refl
  agrees_alike (Call dest ret callee args) =
      ap (λ o. signature_agrees ret args o && register_agrees dest ret) (calls.finds callee)

  known : (i : Instr) →
      (operands_known names values globals (instr_uses i) && callee_known_in callee_names callees i)
      ≡ (uses_known s (instr_uses i) && callee_known s i)
  known i =
      ap (λ b. b && callee_known_in callee_names callees i)
      (uses_known-by_tables s names values globals finds knows (instr_uses i))
      ∙ ap (λ b. uses_known s (instr_uses i) && b) (callee_alike i)

  fit : (i : Instr) →
      (written_fits i && operands_fit (instr_uses i))
      ≡ list_all fits_test (written_types i ++ used_constant_types (instr_uses i))
  fit i =
      ap (λ b. written_fits i && b) (uses_fit-is (instr_uses i))
      ∙ sym (list_all-append fits_test (written_types i) (used_constant_types (instr_uses i)))

  agree : (i : Instr) →
      (operands_agree names values (instr_uses i) && instr_agrees_in callee_names callees i)
      ≡ (uses_agree s (instr_uses i) && instr_agrees s i)
  agree i =
      ap (λ b. b && instr_agrees_in callee_names callees i) (uses_agree-by_tables s names values finds (instr_uses i))
      ∙ ap (λ b. uses_agree s (instr_uses i) && b) (agrees_alike i)

  -- The verification of an instruction by the tables finds what the rules say.
  pub instr_found-is : (i : Instr) (place : Place) →
      instr_found names values globals callee_names callees i place ≡ (instr_required s i place).found
  instr_found-is i place =
      ap
      (λ b. found_by b (written_fits i && operands_fit (instr_uses i))
      (operands_agree names values (instr_uses i) && instr_agrees_in callee_names callees i) place) (known i)
      ∙ ap
      (λ b. found_by (uses_known s (instr_uses i) && callee_known s i) b
      (operands_agree names values (instr_uses i) && instr_agrees_in callee_names callees i) place) (fit i)
      ∙ ap
      (λ b. found_by (uses_known s (instr_uses i) && callee_known s i)
      (list_all fits_test (written_types i ++ used_constant_types (instr_uses i))) b place) (agree i)
