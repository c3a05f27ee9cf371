-- Variables as the code holds them, and those that contracts see.
use Rattle.std.proofs.Common.{ℕ, ◌≡◌, ◌+◌, ◌||◌, Bool, true, false, not, List, [], ◌∷◌, ◌++◌, map, length, Option, Some, None, cond, nat_lt, slice_get, refl, sym, ap, ◌∙◌}
use Rattle.std.specs.Prelude.{position, option_map}
use Rattle.std.specs.List.{list_any, position_or_len}
use Rattle.std.proofs.lemmas.List.{length-map, map-append}
use Rattle.std.proofs.lemmas.Option.{slice_get-map}
use Rattle.hip_types.specs.Distinct.{met}
use Rattle.hip_vol.specs.declared.variables.Variable as held
use Rattle.hip_vol.specs.declared.variables.Variable.TheVariants as variables
use Rattle.hip_vol.specs.contracts.variables.VariablePartialEq as compared
use Rattle.hip_vol.specs.Bounds.{same_variable}
use Rattle.hip_vol.specs.Tables.{variable_of}
use Rattle.hip_vol.proofs.LevelOrder.{same_variable_is}

abbrev pub held_eq : held.Variable → held.Variable → Bool
held_eq a b = compared.TheImpl.eq-value.it a b

pub eq_same : (a b : held.Variable) → held_eq a b ≡ same_variable (variable_of a) (variable_of b)
eq_same (variables.Register g name) (variables.Register h other) = refl
eq_same (variables.Register g name) (variables.Result h) = refl
eq_same (variables.Result g) (variables.Register h other) = refl
eq_same (variables.Result g) (variables.Result h) = refl

module _ (v : held.Variable) where
  place_same : (vs : List held.Variable) → position_or_len (held_eq v) vs ≡ position_or_len (same_variable (variable_of v)) (map variable_of vs)
  place_same [] = refl
  place_same (x ∷ vs) = λ i. cond (not (eq_same v x i)) (1 + place_same vs i) 0

  pub position_same : (vs : List held.Variable) → position (held_eq v) vs ≡ position (same_variable (variable_of v)) (map variable_of vs)
  position_same vs =
      let found : ℕ → ℕ → Option ℕ = λ at len. cond (nat_lt at len) (Some at) None in
      ap (λ at. found at (length vs)) (place_same vs) ∙ ap (λ len. found (position_or_len (same_variable (variable_of v)) (map variable_of vs)) len) (sym (length-map vs variable_of))

  any_same : (vs : List held.Variable) → list_any (held_eq v) vs ≡ list_any (same_variable (variable_of v)) (map variable_of vs)
  any_same [] = refl
  any_same (x ∷ vs) = λ i. eq_same v x i || any_same vs i

  pub met_same : (vs new : List held.Variable) → new ≡ cond (list_any (held_eq v) vs) vs (vs ++ v ∷ []) → map variable_of new ≡ met same_variable (map variable_of vs) (variable_of v ∷ [])
  met_same vs new e = ap (map variable_of) e ∙ by_test (list_any (held_eq v) vs) ∙ ap (λ b. cond b (map variable_of vs) (map variable_of vs ++ variable_of v ∷ [])) (any_same vs)
    where
      by_test : (b : Bool) → map variable_of (cond b vs (vs ++ v ∷ [])) ≡ cond b (map variable_of vs) (map variable_of vs ++ variable_of v ∷ [])
      by_test true = refl
      by_test false = map-append variable_of vs (v ∷ [])

  pub stored_same : (vs : List held.Variable) (k : ℕ) (x : held.Variable) → slice_get vs k ≡ Some x → held_eq v x ≡ true → slice_get (map variable_of vs) k ≡ Some (variable_of v)
  stored_same vs k x e t =
      slice_get-map variable_of vs k ∙ ap (option_map variable_of) e ∙ ap Some (sym (same_variable_is (variable_of v) (variable_of x) (sym (eq_same v x) ∙ t)))
