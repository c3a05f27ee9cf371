-- What the verification of a phi finds by the tables of the code, and that it is what the rules say.
use Rattle.std.specs.Prelude.{ℕ, ◌≡◌, ◌&&◌, ◌||◌, Bool, true, false, List, [], ◌∷◌, Option}
use Rattle.std.specs.List.{list_all}
use Rattle.std.specs.Cmp.{both_ways}
use Rattle.std.specs.Cmp.Derive.{both_true}
use Rattle.std.specs.Str.{bytes_eq}
use Rattle.std.proofs.Common.{refl, sym, ap, subst, ◌∙◌}
use Rattle.std.proofs.lemmas.Slice.Eq.{bytes_eq-Decides}
use Rattle.std.proofs.lemmas.Bool.{and_parts}
use Rattle.hip_types.specs.declared.number.Scalar.{Scalar}
use Rattle.hip_tree.specs.declared.block.Edge.{Edge}
use Rattle.hip_tree.specs.declared.block.Phi.{Phi}
use Rattle.hip_typing.specs.Seen.Answers.{asked}
use Rattle.hip_sound.specs.Requirement.{or_else}
use Rattle.hip_names.specs.Names.{is_among, Knows}
use Rattle.hip_sound.specs.Places.{Scope, are_among, edge_labels, edges_agree, repeats_agree, predecessors, uses_known, uses_agree, fits_test, phi_required}
use Rattle.hip_sound.specs.NumberedNames.{global_names, label_names}
use Rattle.hip_sound.specs.Registers.{phi_uses, used_constant_types}
use Rattle.hip_typing.specs.Seen.Tables.{Finds}
use Rattle.hip_typing.specs.Laws.UseLaws.{uses_known-by_tables, uses_agree-by_tables, uses_fit-is, known_alike}
use Rattle.hip_typing.specs.Seen.UsesSeen.{operands_known, operands_agree, operands_fit}
use Rattle.hip_sound.specs.declared.fault.Fault.TheVariants as breaks
use Rattle.hip_sound.specs.declared.fault.Finding.{Finding}
use Rattle.hip_sound.specs.declared.fault.Place.{Place}

-- What is found first at a phi, given whether its names exist, the types written there fit, its types agree and its
-- edges agree, in this order.
abbrev pub phi_found_by : Bool → Bool → Bool → Bool → Place → Option Finding
phi_found_by known fit agree edges place =
    or_else (asked known breaks.Unknown place)
    (or_else (asked fit breaks.TooLarge place)
    (or_else (asked agree breaks.Mismatch place) (asked edges breaks.BadEdge place)))

-- What the verification of a phi finds by the tables of registers, of globals and of labels, and by the labels of its
-- block's predecessors.
abbrev pub phi_found : List (List ℕ) → List (Option Scalar) → List (List ℕ) → List (List ℕ)
    → List (List ℕ) → Phi →
    Place → Option Finding
phi_found names values globals known_labels before p place =
    phi_found_by (operands_known names values globals (phi_uses p) && are_among known_labels (edge_labels p.edges))
    (operands_fit (phi_uses p))
    (operands_agree names values (phi_uses p)) (edges_agree before p.edges) place

-- ---- lists with the same names

first_or_later : (b c : Bool) → (b || c) ≡ true → (b ≡ false → c ≡ true)
first_or_later true c e f = cc
first_or_later false c e f = e

one_is : (p : List ℕ → Bool) (x name : List ℕ) (b : Bool) → bytes_eq name x ≡ b → p x ≡ true →
    (b ≡ false → p name ≡ true) → p name ≡ true
one_is p x name true e here later = subst (λ (n : List ℕ). p n ≡ true) (sym ((bytes_eq-Decides name x).0 e)) here
one_is p x name false e here later = later refl

at_name : (p : List ℕ → Bool) (xs : List (List ℕ)) → list_all p xs ≡ true → (name : List ℕ)
    → is_among xs name ≡ true →
    p name ≡ true
at_name p [] all name there = cc
at_name p (x ∷ xs) all name there =
    let both = and_parts (p x) (list_all p xs) all in
    one_is p x name (bytes_eq name x) refl both.0
    (λ off. at_name p xs both.1 name (first_or_later (bytes_eq name x) (is_among xs name) there off))

at_each : (p : List ℕ → Bool) (xs : List (List ℕ))
    → ((name : List ℕ) → is_among xs name ≡ true → p name ≡ true) →
    list_all p xs ≡ true
at_each p [] all = refl
at_each p (x ∷ xs) all =
    both_true (all x (ap (λ b. b || is_among xs x) ((bytes_eq-Decides x x).1 refl)))
    (at_each p xs (λ name there. all name (ap (λ b. bytes_eq name x || b) there ∙ or_true (bytes_eq name x))))
  where
    or_true : (b : Bool) → (b || true) ≡ true
    or_true true = refl
    or_true false = refl

-- A test passes for all names of one list exactly if it passes for all names of the other list, if both have the same
-- names.
pub all_alike : (p : List ℕ → Bool) (xs ys : List (List ℕ)) → Knows xs ys → list_all p xs ≡ list_all p ys
all_alike p xs ys knows =
    both_ways (list_all p xs) (list_all p ys)
    (λ all. at_each p ys (λ name there. at_name p xs all name (knows name ∙ there)))
    (λ all. at_each p xs (λ name there. at_name p ys all name (sym (knows name) ∙ there)))

edges_alike : (before names : List (List ℕ)) (edges : List Edge) → Knows before names →
    edges_agree before edges ≡ edges_agree names edges
edges_alike before names edges knows =
    ap (λ b. b && (are_among before (edge_labels edges) && repeats_agree edges))
    (all_alike (is_among (edge_labels edges)) before names knows)
    ∙ ap (λ b. are_among (edge_labels edges) names && (b && repeats_agree edges))
    (known_alike before names (edge_labels edges) knows)

module _ (s : Scope) (names : List (List ℕ)) (values : List (Option Scalar))
    (globals known_labels before : List (List ℕ)) (label : List ℕ) (finds : Finds names values s.registers)
    (knows : Knows globals (global_names s.program)) (knows_labels : Knows known_labels (label_names s.function))
    (comes : Knows before (predecessors s.function.blocks label)) where
  known : (p : Phi) →
      (operands_known names values globals (phi_uses p) && are_among known_labels (edge_labels p.edges))
      ≡ (uses_known s (phi_uses p) && are_among (label_names s.function) (edge_labels p.edges))
  known p =
      ap (λ b. b && are_among known_labels (edge_labels p.edges))
      (uses_known-by_tables s names values globals finds knows (phi_uses p))
      ∙ ap (λ b. uses_known s (phi_uses p) && b)
      (known_alike known_labels (label_names s.function) (edge_labels p.edges) knows_labels)

  -- The verification of a phi by the tables finds what the rules say.
  pub phi_found-is : (p : Phi) (place : Place) →
      phi_found names values globals known_labels before p place ≡ (phi_required s label p place).found
  phi_found-is p place =
      ap
      (λ b. phi_found_by b (operands_fit (phi_uses p)) (operands_agree names values (phi_uses p))
      (edges_agree before p.edges) place) (known p)
      ∙ ap
      (λ b. phi_found_by (uses_known s (phi_uses p) && are_among (label_names s.function) (edge_labels p.edges)) b
      (operands_agree names values (phi_uses p)) (edges_agree before p.edges) place) (uses_fit-is (phi_uses p))
      ∙ ap
      (λ b. phi_found_by (uses_known s (phi_uses p) && are_among (label_names s.function) (edge_labels p.edges))
      (list_all fits_test (used_constant_types (phi_uses p))) b (edges_agree before p.edges) place)
      (uses_agree-by_tables s names values finds (phi_uses p))
      ∙ ap
      (λ b. phi_found_by (uses_known s (phi_uses p) && are_among (label_names s.function) (edge_labels p.edges))
      (list_all fits_test (used_constant_types (phi_uses p))) (uses_agree s (phi_uses p)) b place)
      (edges_alike before (predecessors s.function.blocks label) p.edges comes)
