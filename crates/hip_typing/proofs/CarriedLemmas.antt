-- Tables of what the edges of a phi carry.
use Rattle.std.proofs.Common.{ℕ, ◌+◌, ◌≡◌, ◌<◌, ◌&&◌, ◌||◌, not, Bool, true, false, List, [], ◌∷◌, ◌++◌, map, take, length, get_or, Option, Some, None, refl, sym, ap, subst, ◌∙◌, arith}
use Rattle.std.specs.Prelude.{if◌then◌else◌, option_map, is_some}
use Rattle.std.specs.Borrow.{Bor}
use Rattle.std.specs.List.{list_all}
use Rattle.std.specs.Cmp.Derive.{both_true}
use Rattle.std.specs.Str.{bytes_eq}
use Rattle.std.proofs.lemmas.List.{map-append}
use Rattle.std.proofs.lemmas.Slice.Eq.{bytes_eq-Decides}
use Rattle.std.proofs.lemmas.Bool.{and_parts}
use Rattle.hip_tree.specs.declared.block.Edge.{Edge}
use Rattle.hip_tree.specs.declared.instr.Operand.{Operand}
use Rattle.hip_typing.specs.Seen.Carried.{EdgesCarry, carries_again, edge_entry, carried_seen}
use Rattle.hip_sound.specs.Laws.ConstLaws.{same_operand-equal}
use Rattle.hip_sound.specs.Equal.{same_operand}
use Rattle.hip_names.specs.Laws.NameLaws.{bytes_eq-sym}
use Rattle.hip_names.specs.Names.{is_among, Knows}
use Rattle.hip_sound.specs.Places.{are_among, carry_alike, edge_labels, edges_agree, repeats_agree}
use Rattle.hip_names.specs.Tables.{Entry, TableStandsFor, value_of, value_beside}
use Rattle.hip_typing.proofs.KnownLemmas.{all_known}
use Rattle.hip_typing.proofs.PairLemmas.{fails_in_front, pair_step, take_item}
use Rattle.hip_names.specs.Laws.TableLaws.{beside-cons}

abbrev again : Option Operand → Operand → Bool
again None o = true
again (Some first) o = same_operand first o

again_seen : (first : Option (Bor Operand)) (o : Operand) → carries_again first o ≡ again (option_map (λ r. r.now) first) o
again_seen None o = refl
again_seen (Some first) o = refl

-- An edge that carries the same as an earlier one is like all edges that are like that one.
alike : (y z x : Edge) → bytes_eq y.label x.label ≡ true → same_operand y.value x.value ≡ true → carry_alike y z ≡ true → carry_alike z x ≡ true
alike y z x label same other = by_test (bytes_eq z.label x.label) refl
  where
    by_test : (b : Bool) → bytes_eq z.label x.label ≡ b → (not b || same_operand z.value x.value) ≡ true
    by_test false e = refl
    by_test true e =
        let from_x : y.label ≡ x.label = (bytes_eq-Decides y.label x.label).0 label in
        let to_x : z.label ≡ x.label = (bytes_eq-Decides z.label x.label).0 e in
        let one : bytes_eq y.label z.label ≡ true = (bytes_eq-Decides y.label z.label).1 (from_x ∙ sym to_x) in
        let carried : same_operand y.value z.value ≡ true = sym (ap (λ b. not b || same_operand y.value z.value) one) ∙ other in
        subst (λ (o : Operand). same_operand o x.value ≡ true) (same_operand-equal y.value z.value carried) same

all_alike : (y : Edge) (zs : List Edge) (x : Edge) → bytes_eq y.label x.label ≡ true → same_operand y.value x.value ≡ true → list_all (carry_alike y) zs ≡ true → list_all (λ z. carry_alike z x) zs ≡ true
all_alike y [] x label same others = refl
all_alike y (z ∷ zs) x label same others =
    let both = and_parts (carry_alike y z) (list_all (carry_alike y) zs) others in
    ap (λ b. b && list_all (λ w. carry_alike w x) zs) (alike y z x label same both.0) ∙ all_alike y zs x label same both.1

-- If edges agree, the first edge of a label decides whether another edge agrees with them.
first_decides : (ys : List Edge) (x : Edge) → repeats_agree ys ≡ true → list_all (λ y. carry_alike y x) ys ≡ again (value_of (map edge_entry ys) x.label) x.value
first_decides [] x agree = refl
first_decides (y ∷ ys) x agree = by_test (first_decides ys x both.1) (bytes_eq y.label x.label) refl
  where
    both : (list_all (carry_alike y) ys ≡ true) × (repeats_agree ys ≡ true)
    both = and_parts (list_all (carry_alike y) ys) (repeats_agree ys) agree

    all : Bool
    all = list_all (λ z. carry_alike z x) ys

    same_or_not : (b : Bool) → same_operand y.value x.value ≡ b → bytes_eq y.label x.label ≡ true → (b && all) ≡ b
    same_or_not false e label = refl
    same_or_not true e label = all_alike y ys x label e both.0

    by_test : all ≡ again (value_of (map edge_entry ys) x.label) x.value → (b : Bool) → bytes_eq y.label x.label ≡ b → ((not b || same_operand y.value x.value) && all) ≡ again (if b then Some y.value else value_of (map edge_entry ys) x.label) x.value
    by_test later false e = later
    by_test later true e = same_or_not (same_operand y.value x.value) refl e

seen_if : (b : Bool) (r : Bor Operand) (o : Option (Bor Operand)) → option_map (λ z. z.now) (if b then Some r else o) ≡ (if b then Some r.now else option_map (λ z. z.now) o)
seen_if true r o = refl
seen_if false r o = refl

seen_value : (es : List (Entry (Bor Operand))) (name : List ℕ) → option_map (λ z. z.now) (value_of es name) ≡ value_of (map carried_seen es) name
seen_value [] name = refl
seen_value (e ∷ es) name = seen_if (bytes_eq e.name name) e.value (value_of es name) ∙ ap (λ o. if bytes_eq e.name name then Some e.value.now else o) (seen_value es name)

module _ {ns : List (List ℕ)} {vs : List (Bor Operand)} (edges : List Edge) (i : ℕ) (x : Edge) (within : i < length edges) (is : x ≡ get_or edges i x) (so_far : EdgesCarry ns vs (take i edges)) where
  found : option_map (λ z. z.now) (value_beside ns vs x.label) ≡ value_of (map edge_entry (take i edges)) x.label
  found = ap (option_map (λ z. z.now)) (so_far.stands.finds x.label) ∙ seen_value so_far.entries x.label ∙ ap (λ es. value_of es x.label) so_far.are

  step : repeats_agree (take (i + 1) edges) ≡ carries_again (value_beside ns vs x.label) x.value
  step =
      pair_step carry_alike edges i x within is ∙ ap (λ b. b && list_all (λ y. carry_alike y x) (take i edges)) so_far.agree
      ∙ first_decides (take i edges) x so_far.agree ∙ ap (λ o. again o x.value) (sym found) ∙ sym (again_seen (value_beside ns vs x.label) x.value)

  pub edge_differs : carries_again (value_beside ns vs x.label) x.value ≡ false → repeats_agree edges ≡ false
  edge_differs off = sym (fails_in_front carry_alike edges (i + 1) (step ∙ off))

  pub edge_more : {ms : List (List ℕ)} {us : List (Bor Operand)} {n : List ℕ} {r : Bor Operand} →
      ((entries : List (Entry (Bor Operand))) → TableStandsFor ns vs entries → TableStandsFor ms us (entries ++ record { name = n; value = r } ∷ [])) →
      n ≡ x.label → r.now ≡ x.value → carries_again (value_beside ns vs x.label) x.value ≡ true → EdgesCarry ms us (take (i + 1) edges)
  edge_more {n = n} {r = r} adds label past on =
      let it : Entry (Bor Operand) = record { name = n; value = r } in
      record {
        entries = so_far.entries ++ it ∷ [];
        stands = adds so_far.entries so_far.stands;
        are =
            map-append carried_seen so_far.entries (it ∷ [])
            ∙ ap (λ es. es ++ map carried_seen (it ∷ [])) so_far.are
            ∙ ap (λ (m : List ℕ). map edge_entry (take i edges) ++ record { name = m; value = r.now } ∷ []) label
            ∙ ap (λ (o : Operand). map edge_entry (take i edges) ++ record { name = x.label; value = o } ∷ []) past
            ∙ sym (ap (map edge_entry) (take_item carry_alike edges i x within is) ∙ map-append edge_entry (take i edges) (x ∷ []));
        agree = step ∙ on;
      }

-- ---- the labels that a table has

module _ {V : Type 0} where
  some_if : (b : Bool) (v : V) (o : Option V) → is_some (if b then Some v else o) ≡ (b || is_some o)
  some_if true v o = refl
  some_if false v o = refl

  is_found : (es : List (Entry V)) (name : List ℕ) → is_some (value_of es name) ≡ is_among (map (λ e. e.name) es) name
  is_found [] name = refl
  is_found (e ∷ es) name =
      some_if (bytes_eq e.name name) e.value (value_of es name) ∙ ap (λ b. b || is_some (value_of es name)) (bytes_eq-sym e.name name) ∙ ap (λ b. bytes_eq name e.name || b) (is_found es name)

  is_beside : (ns : List (List ℕ)) (vs : List V) (name : List ℕ) → length ns ≡ length vs → is_some (value_beside ns vs name) ≡ is_among ns name
  is_beside [] vs name e = refl
  is_beside (n ∷ ns) [] name e = absurd (omega arith)
  is_beside (n ∷ ns) (v ∷ vs) name e = ap is_some (beside-cons n ns v vs name) ∙ some_if (bytes_eq name n) v (value_beside ns vs name) ∙ ap (λ b. bytes_eq name n || b) (is_beside ns vs name (omega arith))

  -- A table has the names of its entries.
  pub has_names : {ns : List (List ℕ)} {vs : List V} (es : List (Entry V)) → TableStandsFor ns vs es → Knows ns (map (λ e. e.name) es)
  has_names {ns = ns} {vs = vs} es s name = sym (is_beside ns vs name s.as_long) ∙ ap is_some (s.finds name) ∙ is_found es name

labels_seen : (es : List (Entry (Bor Operand))) → map (λ e. e.name) es ≡ map (λ e. e.name) (map carried_seen es)
labels_seen [] = refl
labels_seen (e ∷ es) = ap (λ ns. e.name ∷ ns) (labels_seen es)

labels_of : (edges : List Edge) → map (λ e. e.name) (map edge_entry edges) ≡ edge_labels edges
labels_of [] = refl
labels_of (e ∷ es) = ap (λ ns. e.label ∷ ns) (labels_of es)

-- If the edges agree, the rule is whether each predecessor is in the table.
pub edges_by_table : {ns : List (List ℕ)} {vs : List (Bor Operand)} (before : List (List ℕ)) (edges : List Edge) → EdgesCarry ns vs edges → are_among before (edge_labels edges) ≡ true → list_all (is_among ns) before ≡ edges_agree before edges
edges_by_table {ns = ns} before edges c among =
    let knows : Knows ns (edge_labels edges) = λ name. has_names c.entries c.stands name ∙ ap (λ names. is_among names name) (labels_seen c.entries ∙ ap (map (λ e. e.name)) c.are ∙ labels_of edges) in
    all_known ns (edge_labels edges) before knows
    ∙ sym (and_true (list_all (is_among (edge_labels edges)) before))
    ∙ ap (λ b. list_all (is_among (edge_labels edges)) before && b) (sym (both_true among c.agree))
  where
    and_true : (b : Bool) → (b && true) ≡ b
    and_true true = refl
    and_true false = refl
