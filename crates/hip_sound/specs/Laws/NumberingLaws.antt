-- Laws of the numbers of functions.
use Rattle.std.specs.Prelude.{ℕ, ◌<◌, ◌≡◌, List, length, Option, Some, None, slice_get, option_map}
use Rattle.std.proofs.Common.{refl, sym, ap, ◌∙◌}
use Rattle.std.proofs.lemmas.Option.{slice_get-map, slice_get_within, same_Some}
use Rattle.hip_tree.specs.declared.program.Function.{Function}
use Rattle.hip_tree.specs.declared.program.Program.{Program}
use Rattle.hip_names.specs.Laws.NumberLaws.{number_of-there, number_of-known}
use Rattle.hip_sound.specs.NumberedNames.{function_names, function_number}

-- A function that has a number by its name is there, with that name.
pub function_number-there : (P : Program) (name : List ℕ) (g : ℕ) → function_number P name ≡ Some g
    → (fn : Function) × (slice_get P.functions g ≡ Some fn) × (fn.name ≡ name)
function_number-there P name g e =
    named (slice_get P.functions g) refl (sym (slice_get-map (λ f. f.name) P.functions g)
    ∙ number_of-there (function_names P.functions) name g e)
  where
    named : (o : Option Function) → slice_get P.functions g ≡ o → option_map (λ f. f.name) o ≡ Some name
        → (fn : Function) × (slice_get P.functions g ≡ Some fn) × (fn.name ≡ name)
    named None at f = cc
    named (Some fn) at f = (fn, at, same_Some fn.name name f)

pub function_number-within : (P : Program) (name : List ℕ) (g : ℕ) → function_number P name ≡ Some g
    → g < length P.functions
function_number-within P name g e =
    let there = function_number-there P name g e in slice_get_within P.functions g there.0 there.1

-- A function that is there has a number by its name.
pub function_number-known : (P : Program) (g : ℕ) (fn : Function) → slice_get P.functions g ≡ Some fn
    → (j : ℕ) × (function_number P fn.name ≡ Some j)
function_number-known P g fn e =
    number_of-known (function_names P.functions) fn.name g
    (slice_get-map (λ f. f.name) P.functions g ∙ ap (option_map (λ f. f.name)) e)
