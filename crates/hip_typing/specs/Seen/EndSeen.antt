-- What the verification of a block's end finds by the tables of the code, and that it is what the rules say.
use Rattle.std.specs.Prelude.{ℕ, ◌≡◌, ◌&&◌, not, Bool, List, Option}
use Rattle.std.specs.List.{list_any, list_all}
use Rattle.std.proofs.Common.{ap, ◌∙◌}
use Rattle.hip_types.specs.declared.number.Scalar.{Scalar}
use Rattle.hip_tree.specs.declared.block.End.{End}
use Rattle.hip_tree.specs.declared.program.Function.{Function}
use Rattle.hip_typing.specs.Seen.Answers.{asked}
use Rattle.hip_sound.specs.Requirement.{or_else}
use Rattle.hip_names.specs.Names.{Knows}
use Rattle.hip_sound.specs.Places.{Scope, are_among, uses_known, uses_agree, returns, end_agrees, cases_differ, end_cases, is_entry, fits_test, end_required}
use Rattle.hip_sound.specs.NumberedNames.{global_names, label_names}
use Rattle.hip_sound.specs.Registers.{end_uses, end_labels, used_constant_types}
use Rattle.hip_typing.specs.Seen.Tables.{Finds}
use Rattle.hip_typing.specs.Laws.UseLaws.{uses_known-by_tables, uses_agree-by_tables, uses_fit-is, known_alike}
use Rattle.hip_typing.specs.Seen.UsesSeen.{operands_known, operands_agree, operands_fit}
use Rattle.hip_sound.specs.declared.fault.Fault.TheVariants as breaks
use Rattle.hip_sound.specs.declared.fault.Finding.{Finding}
use Rattle.hip_sound.specs.declared.fault.Place.{Place}

-- What is found first at the end of a block, given whether its names exist, the types written there fit and its types
-- agree. After these come the rules that the values of its cases differ and that none of its labels is the entry
-- block's.
abbrev pub end_found_by : Bool → Bool → Bool → Function → End → Place → Option Finding
end_found_by known fit agree function e place =
    or_else (asked known breaks.Unknown place)
    (or_else (asked fit breaks.TooLarge place)
    (or_else (asked agree breaks.Mismatch place)
    (or_else (asked (cases_differ (end_cases e)) breaks.Duplicate place)
    (asked (not (list_any (is_entry function.blocks) (end_labels e))) breaks.BadEdge place))))

-- What the verification of a block's end finds by the tables of registers, of globals and of labels.
abbrev pub end_found : List (List ℕ) → List (Option Scalar) → List (List ℕ) → List (List ℕ) → Function
    → End → Place →
    Option Finding
end_found names values globals known_labels function e place =
    end_found_by (operands_known names values globals (end_uses e) && are_among known_labels (end_labels e))
    (operands_fit (end_uses e))
    (operands_agree names values (end_uses e) && returns function.ret e) function e place

module _ (s : Scope) (names : List (List ℕ)) (values : List (Option Scalar)) (globals known_labels : List (List ℕ))
    (finds : Finds names values s.registers) (knows : Knows globals (global_names s.program))
    (knows_labels : Knows known_labels (label_names s.function)) where
  known : (e : End) →
      (operands_known names values globals (end_uses e) && are_among known_labels (end_labels e))
      ≡ (uses_known s (end_uses e) && are_among (label_names s.function) (end_labels e))
  known e =
      ap (λ b. b && are_among known_labels (end_labels e))
      (uses_known-by_tables s names values globals finds knows (end_uses e))
      ∙ ap (λ b. uses_known s (end_uses e) && b)
      (known_alike known_labels (label_names s.function) (end_labels e) knows_labels)

  agree : (e : End) →
      (operands_agree names values (end_uses e) && returns s.function.ret e)
      ≡ (uses_agree s (end_uses e) && end_agrees s e)
  agree e = ap (λ b. b && returns s.function.ret e) (uses_agree-by_tables s names values finds (end_uses e))

  -- The verification of the end of a block by the tables finds what the rules say.
  pub end_found-is : (e : End) (place : Place) →
      end_found names values globals known_labels s.function e place ≡ (end_required s e place).found
  end_found-is e place =
      ap
      (λ b. end_found_by b (operands_fit (end_uses e))
      (operands_agree names values (end_uses e) && returns s.function.ret e) s.function e place) (known e)
      ∙ ap
      (λ b. end_found_by (uses_known s (end_uses e) && are_among (label_names s.function) (end_labels e)) b
      (operands_agree names values (end_uses e) && returns s.function.ret e) s.function e place)
      (uses_fit-is (end_uses e))
      ∙ ap
      (λ b. end_found_by (uses_known s (end_uses e) && are_among (label_names s.function) (end_labels e))
      (list_all fits_test (used_constant_types (end_uses e))) b s.function e place) (agree e)
