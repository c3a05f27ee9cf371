-- The texts of the items of a list, one item longer.
use Rattle.std.proofs.Common.{ℕ, ◌+◌, ◌<◌, ◌≡◌, List, [], ◌∷◌, ◌++◌, take, length, get_or, sym, ap, subst, ◌∙◌, append-nil}
use Rattle.std.specs.List.{flat_map}
use Rattle.std.proofs.lemmas.List.{take_more}
use Rattle.std.proofs.lemmas.Grind.{flat_map-append}

pub longer : {X : Type 0} (text : X → List ℕ) (xs : List X) (i : ℕ) (x : X) → i < length xs → x ≡ get_or xs i x
    → flat_map text (take (i + 1) xs) ≡ flat_map text (take i xs) ++ text x
longer text xs i x within is =
    ap (flat_map text) (subst (λ y. take (i + 1) xs ≡ take i xs ++ y ∷ []) (sym is) (take_more xs i x within))
    ∙ flat_map-append text (take i xs) (x ∷ [])
    ∙ ap (λ t. flat_map text (take i xs) ++ t) (append-nil (text x))
