-- Where the repaired program has its functions.
use Rattle.std.proofs.Common.{◌≡◌, ℕ, zero, suc, ◌+◌, ◌<◌, Bool, true, false, cond, nat_lt, List, [], ◌∷◌, ◌++◌, length, Option, Some, None, slice_get, option_map, refl, ap, ◌∙◌, arith, lt-ltb}
use Rattle.std.specs.Prelude.{codes}
use Rattle.std.proofs.lemmas.List.{map-append}
use Rattle.hip_tree.specs.declared.program.Function.{Function}
use Rattle.hip_tree.specs.declared.program.Program.{Program}
use Rattle.hip_tree.specs.declared.site.Site.{Site}
use Rattle.hip_names.specs.Names.{number_of}
use Rattle.hip_sound.specs.NumberedNames.{function_names, function_number}
use Rattle.hip_names.specs.Laws.NumberLaws.{number_of-front}
use Rattle.hip_calls.specs.Fresh.{fresh_names}
use Rattle.hip_runs.specs.Places.{blocks_in}
use Rattle.hip_runs.specs.Step.{main_number}
use Rattle.hip_repairs.specs.declared.plan.Plan.{Plan}
use Rattle.hip_repairs.specs.Repaired.{Clone, Wanted, wanted_by, clones_of, cloned, repaired, repaired_blocks, repaired_function, repaired_functions, clone_functions}
use Rattle.hip_repairs.proofs.functions.Twins.{Twin}

pub get_front : {A : Type 0} (xs ys : List A) (k : ℕ) → k < length xs → slice_get (xs ++ ys) k ≡ slice_get xs k
get_front [] ys k h = absurd (omega arith)
get_front (x ∷ xs) ys zero h = refl
get_front (x ∷ xs) ys (suc k) h = get_front xs ys k (omega arith)

pub get_back : {A : Type 0} (xs ys : List A) (j : ℕ) → slice_get (xs ++ ys) (length xs + j) ≡ slice_get ys j
get_back [] ys j = let e : 0 + j ≡ j = omega arith in ap (slice_get ys) e
get_back (x ∷ xs) ys j = let e : suc (length xs) + j ≡ suc (length xs + j) = omega arith in ap (slice_get (x ∷ (xs ++ ys))) e ∙ get_back xs ys j

-- ---- the functions that stand first

pub length-repaired_functions : (clones : List Clone) (w : Wanted) (f : ℕ) (xs : List Function) → length (repaired_functions clones w f xs) ≡ length xs
length-repaired_functions clones w f [] = refl
length-repaired_functions clones w f (x ∷ xs) = ap suc (length-repaired_functions clones w (suc f) xs)

pub names-repaired_functions : (clones : List Clone) (w : Wanted) (f : ℕ) (xs : List Function) → function_names (repaired_functions clones w f xs) ≡ function_names xs
names-repaired_functions clones w f [] = refl
names-repaired_functions clones w f (x ∷ xs) = ap (λ names. x.name ∷ names) (names-repaired_functions clones w (suc f) xs)

get-repaired_functions : (clones : List Clone) (w : Wanted) (first f : ℕ) (xs : List Function) →
    slice_get (repaired_functions clones w first xs) f ≡ option_map (λ x. repaired_function clones w false (first + f) x.name x) (slice_get xs f)
get-repaired_functions clones w first f [] = refl
get-repaired_functions clones w first zero (x ∷ xs) = let e : first ≡ first + 0 = omega arith in ap (λ n. Some (repaired_function clones w false n x.name x)) e
get-repaired_functions clones w first (suc f) (x ∷ xs) =
    let e : suc first + f ≡ first + suc f = omega arith in
    get-repaired_functions clones w (suc first) f xs ∙ ap (λ n. option_map (λ y. repaired_function clones w false n y.name y) (slice_get xs f)) e

cond_true : {A : Type 0} (t : Bool) (x y : A) → t ≡ true → cond t x y ≡ x
cond_true t x y e = ap (λ b. cond b x y) e

blocks_in_code : (clones : List Clone) (w : Wanted) (clone : Bool) (f : ℕ) (name : Function → List ℕ) (o : Option Function) →
    blocks_in (option_map (λ x. repaired_function clones w clone f (name x) x) o) ≡ repaired_blocks clones w clone f 0 (blocks_in o)
blocks_in_code clones w clone f name None = refl
blocks_in_code clones w clone f name (Some x) = refl

module _ (P : Program) (plan : Plan) (skip : Site → Bool) where
  -- A function of the program is in the repaired program under its number.
  pub plain_code : (f : ℕ) → f < length P.functions →
      slice_get (repaired P plan skip).functions f ≡ option_map (λ x. repaired_function (clones_of P plan) (wanted_by plan skip) false f x.name x) (slice_get P.functions f)
  plain_code f h =
      let e : 0 + f ≡ f = omega arith in
      get_front (repaired_functions (clones_of P plan) (wanted_by plan skip) 0 P.functions) _ f (omega (arith, length-repaired_functions (clones_of P plan) (wanted_by plan skip) 0 P.functions))
      ∙ get-repaired_functions (clones_of P plan) (wanted_by plan skip) 0 f P.functions
      ∙ ap (λ n. option_map (λ x. repaired_function (clones_of P plan) (wanted_by plan skip) false n x.name x) (slice_get P.functions f)) e

  pub twin_of_plain : (f : ℕ) → f < length P.functions → Twin P plan skip false f f
  twin_of_plain f h = record {
    plain = λ _. (refl, h);
    high = λ e. cc;
    blocks = ap blocks_in (plain_code f h) ∙ blocks_in_code (clones_of P plan) (wanted_by plan skip) false f (λ x. x.name) (slice_get P.functions f);
    marked = λ b. cond_true (nat_lt f (length P.functions)) _ _ (lt-ltb f (length P.functions) h);
  }

  -- A name of the program has the same number.
  pub plain_number : (name : List ℕ) (g : ℕ) → function_number P name ≡ Some g → function_number (repaired P plan skip) name ≡ Some g
  plain_number name g e = ap (λ names. number_of names name) names_then ∙ number_of-front (function_names P.functions) (function_names clones) name g e
    where
      first : List Function
      first = repaired_functions (clones_of P plan) (wanted_by plan skip) 0 P.functions

      clones : List Function
      clones = clone_functions P (clones_of P plan) (wanted_by plan skip) (cloned P plan) (fresh_names P (cloned P plan))

      names_then : function_names (first ++ clones) ≡ function_names P.functions ++ function_names clones
      names_then = map-append (λ (f : Function). f.name) first clones ∙ ap (λ names. names ++ function_names clones) (names-repaired_functions (clones_of P plan) (wanted_by plan skip) 0 P.functions)

  pub main_of : (main : ℕ) → function_number P (codes "main") ≡ Some main → main_number P ≡ main
  main_of main e = ap (λ o. elim o as (λ _. ℕ) [ None ↦ 0 | Some f ↦ f ]) e

  pub repaired_main_of : (main : ℕ) → function_number P (codes "main") ≡ Some main → main_number (repaired P plan skip) ≡ main
  repaired_main_of main e = ap (λ o. elim o as (λ _. ℕ) [ None ↦ 0 | Some f ↦ f ]) (plain_number (codes "main") main e)
