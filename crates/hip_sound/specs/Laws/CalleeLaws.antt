-- No name is both that of a function and that of an external function.
use Rattle.std.proofs.Common.{◌≡◌, ℕ, false, List, Option, Some, None, is_some, option_map, refl, sym, ap, ◌∙◌, slice_get, subst}
use Rattle.std.proofs.lemmas.Option.{same_Some, slice_get-map}
use Rattle.hip_externs.specs.Externs.{call_of}
use Rattle.hip_externs.specs.declared.call.ExternCall.{ExternCall}
use Rattle.hip_tree.specs.declared.program.Function.{Function}
use Rattle.hip_tree.specs.declared.program.Program.{Program}
use Rattle.hip_names.specs.Laws.NumberLaws.{number_of-there}
use Rattle.hip_sound.specs.Laws.Decided.{all-at}
use Rattle.hip_sound.specs.NumberedNames.{function_names, function_number}
use Rattle.hip_sound.specs.Sound.{IsSound, IsFree}

-- The name of a function is not that of an external function.
pub number_free : (P : Program) → IsSound P → (callee : List ℕ) (g : ℕ) → function_number P callee ≡ Some g
    → call_of callee ≡ None
number_free P s callee g named = go (slice_get P.functions g) refl
  where
    there : option_map (λ (f : Function). f.name) (slice_get P.functions g) ≡ Some callee
    there =
        sym (slice_get-map (λ (f : Function). f.name) P.functions g)
        ∙ number_of-there (function_names P.functions) callee g named

    go : (o : Option Function) → slice_get P.functions g ≡ o → call_of callee ≡ None
    go None e =
        absurd
        (let no : None ≡ Some callee = sym (ap (option_map (λ (f : Function). f.name)) e) ∙ there in
        let z : ⊥ = cc in
        z)
    go (Some f) e =
        let same : f.name ≡ callee = same_Some _ _ (sym (ap (option_map (λ (h : Function). h.name)) e) ∙ there) in
        subst (λ n. call_of n ≡ None) same
        (all-at (λ (h : Function). IsFree h.name) P.functions g f s.externs.functions e)

-- The name of an external function has no number among the functions.
pub not_numbered : (P : Program) → IsSound P → (callee : List ℕ) (x : ExternCall) → call_of callee ≡ Some x
    → is_some (function_number P callee) ≡ false
not_numbered P s callee x known = go (function_number P callee) refl
  where
    go : (o : Option ℕ) → function_number P callee ≡ o → is_some o ≡ false
    go None e = refl
    go (Some g) e =
        absurd
        (let free = number_free P s callee g e in
        let no : None ≡ Some x = sym free ∙ known in let z : ⊥ = cc in z)
