-- A table of the originals' places finds the names of clones.
use Rattle.std.proofs.Common.{ℕ, zero, suc, ◌<◌, ◌≡◌, Bool, true, false, cond, List, [], ◌∷◌, length, map, get_or, Option, Some, None, option_map, refl, sym, ap, ◌∙◌, arith}
use Rattle.std.specs.Prelude.{option_and_then, slice_get, unwrap_or}
use Rattle.std.specs.Str.{bytes_eq}
use Rattle.hip_tree.specs.declared.program.Program.{Program}
use Rattle.hip_names.specs.Laws.NameLaws.{bytes_eq-sym}
use Rattle.hip_names.specs.Names.{number_of}
use Rattle.hip_names.specs.Laws.NumberLaws.{number_of-cons}
use Rattle.hip_names.specs.Tables.{value_beside}
use Rattle.hip_calls.specs.Fresh.{name_of}
use Rattle.hip_names.specs.Numbered.{NumbersNames}
use Rattle.hip_repairs.specs.Repaired.{clone_name, clones_from}

-- The name at a number, if there is one; else another.
abbrev pub named : List (List ℕ) → Option ℕ → List ℕ → List ℕ
named names o other = unwrap_or (option_and_then (slice_get names) o) other

none_there : (o : Option ℕ) (other : List ℕ) → other ≡ named [] o other
none_there None other = refl
none_there (Some k) other = refl

clone_found : (P : Program) (fs : List ℕ) (names : List (List ℕ)) (name : List ℕ) → clone_name (clones_from P fs names) name ≡ named names (number_of (map (name_of P) fs) name) name
clone_found P [] names name = refl
clone_found P (f ∷ fs) [] name = none_there (number_of (map (name_of P) (f ∷ fs)) name) name
clone_found P (f ∷ fs) (n ∷ ns) name =
    ap (λ rest. cond (bytes_eq (name_of P f) name) n rest) (clone_found P fs ns name)
    ∙ ap (λ b. cond b n (named ns (number_of (map (name_of P) fs) name) name)) (bytes_eq-sym (name_of P f) name)
    ∙ by_first (bytes_eq name (name_of P f)) (number_of (map (name_of P) fs) name)
    ∙ ap (λ o. named (n ∷ ns) o name) (sym (number_of-cons (name_of P f) (map (name_of P) fs) name))
  where
    by_first : (b : Bool) (o : Option ℕ) → cond b n (named ns o name) ≡ named (n ∷ ns) (cond b (Some 0) (option_map suc o)) name
    by_first true o = refl
    by_first false None = refl
    by_first false (Some k) = refl

pub clone_at : (P : Program) (fs : List ℕ) (names : List (List ℕ)) (name : List ℕ) (known : List (List ℕ)) (numbers : List ℕ) →
    NumbersNames known numbers (map (name_of P) fs) → (o : Option ℕ) → o ≡ value_beside known numbers name → named names o name ≡ clone_name (clones_from P fs names) name
clone_at P fs names name known numbers n o e = ap (λ o. named names o name) (e ∙ n.finds name) ∙ sym (clone_found P fs names name)

pub original_named : (P : Program) (fs : List ℕ) (k : ℕ) → k < length fs → get_or (map (name_of P) fs) k [] ≡ name_of P (get_or fs k 0)
original_named P [] k h = absurd (omega arith)
original_named P (f ∷ fs) zero h = refl
original_named P (f ∷ fs) (suc k) h = original_named P fs k (omega arith)
