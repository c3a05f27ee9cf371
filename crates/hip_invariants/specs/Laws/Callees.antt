-- No function has the name of an external function.
use Rattle.std.proofs.Common.{◌≡◌, ℕ, List, Option, Some, None, slice_get, option_map, sym, ap, ◌∙◌, subst}
use Rattle.std.proofs.lemmas.Option.{same_Some, slice_get-map}
use Rattle.hip_types.specs.declared.number.Scalar.{Scalar}
use Rattle.hip_tree.specs.declared.instr.Arg.{Arg}
use Rattle.hip_tree.specs.declared.program.Function.{Function}
use Rattle.hip_tree.specs.declared.program.Program.{Program}
use Rattle.hip_names.specs.Laws.NumberLaws.{number_of-there}
use Rattle.hip_externs.specs.Externs.{call_of}
use Rattle.hip_sound.specs.Given.{CallsFunction}
use Rattle.hip_sound.specs.Laws.Decided.{all-at}
use Rattle.hip_sound.specs.NumberedNames.{function_names}
use Rattle.hip_sound.specs.Sound.{IsSound, IsFree}

-- No function has the name of an external function in the table.
pub function_free : (P : Program) (s : IsSound P) (callee : List ℕ) (ret : Option Scalar) (args : List Arg)
    → CallsFunction P callee ret args → call_of callee ≡ None
function_free P s callee ret args c =
    let free : call_of c.function.name ≡ None =
    all-at (λ f. IsFree f.name) P.functions c.number c.function s.externs.functions c.here in
    let there : slice_get (function_names P.functions) c.number ≡ Some callee =
    number_of-there (function_names P.functions) callee c.number c.named in
    let same : Some c.function.name ≡ Some callee =
    sym (slice_get-map (λ (f : Function). f.name) P.functions c.number
    ∙ ap (option_map (λ (f : Function). f.name)) c.here) ∙ there in
    subst (λ n. call_of n ≡ None) (same_Some c.function.name callee same) free
