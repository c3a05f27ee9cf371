-- Lists that grow by one item.
use Rattle.std.proofs.Common.{ℕ, ◌+◌, ◌≡◌, ◌<◌, List, [], ◌∷◌, ◌++◌, take, length, get_or, sym, ap, subst, ◌∙◌, append_assoc, append-nil}
use Rattle.std.proofs.lemmas.List.{take_more}
use Rattle.hip_globals.specs.Constants.{joined}

pub take_one : {A : Type 0} (xs : List A) (i : ℕ) (x : A) → i < length xs → x ≡ get_or xs i x → take (i + 1) xs ≡ take i xs ++ x ∷ []
take_one xs i x within is = subst (λ y. take (i + 1) xs ≡ take i xs ++ y ∷ []) (sym is) (take_more xs i x within)

pub joined-push : {A : Type 0} (xs : List (List A)) (y : List A) → joined (xs ++ y ∷ []) ≡ joined xs ++ y
joined-push [] y = append-nil y
joined-push (x ∷ xs) y = ap (λ zs. x ++ zs) (joined-push xs y) ∙ sym (append_assoc x (joined xs) y)
