-- Where the repaired program has its functions, and what its calls name.
use Rattle.std.proofs.Common.{◌≡◌, ℕ, ◌<◌, ◌≤◌, Bool, true, false, List, length, Option, Some, slice_get, option_map, sym, ap, ◌∙◌, subst}
use Rattle.std.specs.Prelude.{codes}
use Rattle.std.proofs.lemmas.Option.{slice_get_within}
use Rattle.hip_tree.specs.Sites.{instr_of, has_site}
use Rattle.hip_tree.specs.declared.instr.Arg.{Arg}
use Rattle.hip_tree.specs.declared.instr.Instr.TheVariants.{Call}
use Rattle.hip_tree.specs.declared.program.Function.{Function}
use Rattle.hip_tree.specs.declared.program.Program.{Program}
use Rattle.hip_tree.specs.declared.site.Site.{Site}
use Rattle.hip_types.specs.declared.number.Scalar.{Scalar}
use Rattle.hip_externs.specs.Externs.{call_of}
use Rattle.hip_sound.specs.NumberedNames.{function_number}
use Rattle.hip_sound.specs.Laws.NumberingLaws.{function_number-there, function_number-within}
use Rattle.hip_sound.specs.Rules.{PassesVerifier}
use Rattle.hip_externs.specs.declared.call.ExternCall.{ExternCall}
use Rattle.hip_runs.specs.Places.{body_at}
use Rattle.hip_runs.specs.Step.{main_number}
use Rattle.hip_repairs.specs.declared.plan.Plan.{Plan}
use Rattle.hip_repairs.specs.Repaired.{wanted_by, clone_name, clones_of, cloned, repaired, repaired_function}
use Rattle.hip_repairs.specs.Laws.Callable.{callable_of, IsCallable}
use Rattle.hip_repairs.proofs.functions.Clones.{called_there, closed_there, extern_kept, calls_of_clone, calls_in_clone}
use Rattle.hip_runs.specs.StoredParts.Parts.{In}
use Rattle.hip_repairs.proofs.functions.Functions.{twin_of_plain, plain_code, plain_number, main_of, repaired_main_of}
use Rattle.hip_repairs.proofs.functions.Twins.{Twin, CallsTwin}

-- A sound program is callable.
pub sound_callable : (P : Program) → PassesVerifier P → IsCallable P
sound_callable P sound = callable_of P sound

-- A function that has a number is there.
pub number_there : (P : Program) (name : List ℕ) (g : ℕ) → function_number P name ≡ Some g → (fn : Function) × (slice_get P.functions g ≡ Some fn)
number_there P name g e = let there = function_number-there P name g e in (there.0, there.1)

module _ (P : Program) (plan : Plan) (skip : Site → Bool) (good : IsCallable P) where
  pub plain_twin : (f : ℕ) → f < length P.functions → Twin P plan skip false f f
  plain_twin f h = twin_of_plain P plan skip f h

  -- `main` has the same number.
  pub same_main : main_number (repaired P plan skip) ≡ main_number P
  same_main = repaired_main_of P plan skip good.main_at good.main ∙ sym (main_of P plan skip good.main_at good.main)

  pub main_there : main_number P < length P.functions
  main_there = subst (λ f. f < length P.functions) (sym (main_of P plan skip good.main_at good.main)) (function_number-within P (codes "main") good.main_at good.main)

  -- A call of a function by its own name, and one of a clone.
  pub calls_plain : (callee : List ℕ) (g : ℕ) (fn : Function) → function_number P callee ≡ Some g → slice_get P.functions g ≡ Some fn → CallsTwin P plan skip false callee g fn
  calls_plain callee g fn e f = record {
    number = g;
    found = plain_number P plan skip callee g e;
    free = good.free callee g e;
    name = fn.name;
    code = plain_code P plan skip g (slice_get_within P.functions g fn f) ∙ ap (option_map (λ x. repaired_function (clones_of P plan) (wanted_by plan skip) false g x.name x)) f;
    twin = plain_twin g (slice_get_within P.functions g fn f);
  }

  pub calls_clone : (callee : List ℕ) (g : ℕ) (fn : Function) → function_number P callee ≡ Some g → slice_get P.functions g ≡ Some fn → In g (cloned P plan) → CallsTwin P plan skip true (clone_name (clones_of P plan) callee) g fn
  calls_clone callee g fn e f i = calls_of_clone P plan skip good callee g fn e f i

  -- A call of an external function keeps its name in a clone.
  pub extern_name : (callee : List ℕ) (e : ExternCall) → call_of callee ≡ Some e → clone_name (clones_of P plan) callee ≡ callee
  extern_name callee e h = extern_kept P plan good callee (λ none. cc)

  -- The callee of a hoisted call is cloned, and so is each function that a cloned one calls.
  pub hoisted_cloned : (s : Site) (dest : Option (List ℕ)) (ret : Option Scalar) (callee : List ℕ) (args : List Arg) (g : ℕ) → has_site plan.hoist s ≡ true → instr_of P s ≡ Some (Call dest ret callee args) → function_number P callee ≡ Some g → In g (cloned P plan)
  hoisted_cloned s dest ret callee args g h i e = called_there P plan.hoist s dest ret callee args g h i e

  pub cloned_closed : (f b k : ℕ) (dest : Option (List ℕ)) (ret : Option Scalar) (callee : List ℕ) (args : List Arg) (g : ℕ) → In f (cloned P plan) → slice_get (body_at P f b) k ≡ Some (Call dest ret callee args) → function_number P callee ≡ Some g → In g (cloned P plan)
  cloned_closed f b k dest ret callee args g i c e = closed_there P plan.hoist f b k dest ret callee args g i c e

  -- In a clone, a call of a defined function names a clone.
  pub clone_calls : (f' b k : ℕ) (dest : Option (List ℕ)) (ret : Option Scalar) (callee' : List ℕ) (args : List Arg) (g' : ℕ) → length P.functions ≤ f' → slice_get (body_at (repaired P plan skip) f' b) k ≡ Some (Call dest ret callee' args) → function_number (repaired P plan skip) callee' ≡ Some g' → length P.functions ≤ g'
  clone_calls f' b k dest ret callee' args g' high c e = calls_in_clone P plan skip good f' b k dest ret callee' args g' high c e
