use Rattle.std.proofs.Common.{◌≡◌, ◌∙◌, ◌∷◌, ◌++◌, [], None, Some, ap, sym}
use Rattle.std.proofs.lemmas.Option.{same_Some}
use Rattle.hip_core.proofs.pointers.address_in.Goals as goal

pub returns-in_ok-push-in-Some : goal.returns-in_ok-push-in-Some
returns-in_ok-push-in-Some c a stores =
    let same : c.in-Some.addr ≡ a = same_Some _ _ (sym c.in-Some.is ∙ c.address_of.ensures a stores) in
    c.in_ok-push-in-Some.ensures.ok ∙ ap (λ xs. xs ++ c.in-Some.addr ∷ []) c.new-values.ensures ∙ ap (λ x. x ∷ []) same

pub returns-in-None : goal.returns-in-None
returns-in-None c a stores = absurd (let no : None ≡ Some a = sym c.in-None.is ∙ c.address_of.ensures a stores in let z : ⊥ = cc in z)
