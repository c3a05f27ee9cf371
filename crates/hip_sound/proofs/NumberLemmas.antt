-- Numbers of functions by their names.
use Rattle.std.proofs.Common.{ℕ, suc, ◌+◌, ◌≡◌, ◌<◌, true, false, List, ◌∷◌, drop, length, get_or, Option, Some, None, refl, sym, ap, ◌∙◌, arith}
use Rattle.std.specs.Prelude.{if◌then◌else◌, option_map}
use Rattle.std.specs.Str.{bytes_eq}
use Rattle.std.proofs.lemmas.List.{at_drop_more}
use Rattle.hip_tree.specs.declared.program.Function.{Function}
use Rattle.hip_names.specs.Laws.NameLaws.{bytes_eq-sym}
use Rattle.hip_names.specs.Names.{number_of}
use Rattle.hip_sound.specs.NumberedNames.{function_names}
use Rattle.hip_names.specs.Laws.NumberLaws.{number_of-cons}

module _ (fs : List Function) (i : ℕ) (f : Function) (name : List ℕ) (within : i < length fs) (is : f ≡ get_or fs i f) where
  abbrev pub later : Option ℕ
  later = number_of (function_names (drop (i + 1) fs)) name

  number_next : number_of (function_names (drop i fs)) name ≡ (if bytes_eq f.name name then Some 0 else option_map (λ k. suc k) later)
  number_next =
      at_drop_more (λ gs. number_of (function_names gs) name) fs i f within
      ∙ ap (λ (g : Function). number_of (function_names (g ∷ drop (i + 1) fs)) name) (sym is)
      ∙ number_of-cons f.name (function_names (drop (i + 1) fs)) name
      ∙ ap (λ b. if b then Some 0 else option_map (λ k. suc k) later) (bytes_eq-sym name f.name)

  pub number_here : option_map (λ k. i + k) (number_of (function_names (drop i fs)) name) ≡ number_of (function_names fs) name → bytes_eq f.name name ≡ true → Some i ≡ number_of (function_names fs) name
  number_here so_far e =
      let none : i ≡ i + 0 = omega arith in
      ap (λ k. Some k) none ∙ ap (option_map (λ k. i + k)) (sym (number_next ∙ ap (λ b. if b then Some 0 else option_map (λ k. suc k) later) e)) ∙ so_far

  moved : (o : Option ℕ) → option_map (λ k. i + 1 + k) o ≡ option_map (λ k. i + k) (option_map (λ k. suc k) o)
  moved None = refl
  moved (Some k) = let e : i + 1 + k ≡ i + suc k = omega arith in ap (λ n. Some n) e

  pub number_later : option_map (λ k. i + k) (number_of (function_names (drop i fs)) name) ≡ number_of (function_names fs) name → bytes_eq f.name name ≡ false → option_map (λ k. i + 1 + k) later ≡ number_of (function_names fs) name
  number_later so_far e =
      moved later ∙ ap (option_map (λ k. i + k)) (sym (number_next ∙ ap (λ b. if b then Some 0 else option_map (λ k. suc k) later) e)) ∙ so_far
