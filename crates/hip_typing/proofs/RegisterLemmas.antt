-- Tables of registers that grow.
use Rattle.std.proofs.Common.{ℕ, ◌+◌, ◌≡◌, ◌<◌, List, [], ◌∷◌, ◌++◌, map, take, length, get_or, Option, Some, refl, sym, ap, subst, ◌∙◌, append_assoc, append-nil}
use Rattle.std.specs.Prelude.{if◌then◌else◌}
use Rattle.std.specs.List.{flat_map}
use Rattle.std.specs.Str.{bytes_eq}
use Rattle.std.proofs.lemmas.List.{take_more, map-append}
use Rattle.std.proofs.lemmas.Grind.{flat_map-append}
use Rattle.hip_types.specs.declared.number.Scalar.{Scalar}
use Rattle.hip_sound.specs.Registers.{Register, find_register}
use Rattle.hip_names.specs.Tables.{Entry, value_of, TableStandsFor}
use Rattle.hip_typing.specs.Seen.Tables.{register_entry, Adds, Finds}

pub take_one : {A : Type 0} (xs : List A) (i : ℕ) (x : A) → i < length xs → x ≡ get_or xs i x → take (i + 1) xs ≡ take i xs ++ x ∷ []
take_one xs i x within is = subst (λ y. take (i + 1) xs ≡ take i xs ++ y ∷ []) (sym is) (take_more xs i x within)

module _ {ns ms ks : List (List ℕ)} {vs us ws : List (Option Scalar)} where
  pub adds_then : (xs ys : List Register) → Adds ns vs ms us xs → Adds ms us ks ws ys → Adds ns vs ks ws (xs ++ ys)
  adds_then xs ys first next = record {
    adds = λ entries s.
        let grown : TableStandsFor ks ws (entries ++ map register_entry xs ++ map register_entry ys) = next.adds (entries ++ map register_entry xs) (first.adds entries s) in
        subst (λ (es : List (Entry (Option Scalar))). TableStandsFor ks ws es)
        (append_assoc entries (map register_entry xs) (map register_entry ys) ∙ ap (λ es. entries ++ es) (sym (map-append register_entry xs ys))) grown;
  }

  pub adds_one : {A : Type 0} (g : A → Register) (xs : List A) (i : ℕ) (x : A) → i < length xs → x ≡ get_or xs i x → Adds ns vs ms us (map g (take i xs)) → Adds ms us ks ws (g x ∷ []) → Adds ns vs ks ws (map g (take (i + 1) xs))
  adds_one g xs i x within is first next =
      subst (λ (rs : List Register). Adds ns vs ks ws rs) (sym (ap (map g) (take_one xs i x within is) ∙ map-append g (take i xs) (x ∷ []))) (adds_then (map g (take i xs)) (g x ∷ []) first next)

  pub adds_some : {A : Type 0} (g : A → List Register) (xs : List A) (i : ℕ) (x : A) → i < length xs → x ≡ get_or xs i x → Adds ns vs ms us (flat_map g (take i xs)) → Adds ms us ks ws (g x) → Adds ns vs ks ws (flat_map g (take (i + 1) xs))
  adds_some g xs i x within is first next =
      let whole : flat_map g (take (i + 1) xs) ≡ flat_map g (take i xs) ++ g x = ap (flat_map g) (take_one xs i x within is) ∙ flat_map-append g (take i xs) (x ∷ []) ∙ ap (λ ys. flat_map g (take i xs) ++ ys) (append-nil (g x)) in
      subst (λ (rs : List Register). Adds ns vs ks ws rs) (sym whole) (adds_then (flat_map g (take i xs)) (g x) first next)

found_in : (rs : List Register) (name : List ℕ) → value_of (map register_entry rs) name ≡ find_register rs name
found_in [] name = refl
found_in (r ∷ rs) name = ap (λ o. if bytes_eq r.name name then Some r.ty else o) (found_in rs name)

-- A table that grew from nothing finds what it grew by.
pub finds_all : {ns ms : List (List ℕ)} {vs us : List (Option Scalar)} (rs : List Register) → TableStandsFor ns vs [] → Adds ns vs ms us rs → Finds ms us rs
finds_all rs empty grown = record { finds = λ name. (grown.adds [] empty).finds name ∙ found_in rs name }
