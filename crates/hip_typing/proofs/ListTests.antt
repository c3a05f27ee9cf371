-- Tests of the items of a list, one after another.
use Rattle.std.proofs.Common.{ℕ, ◌+◌, ◌<◌, ◌≡◌, ◌&&◌, Bool, true, false, List, ◌∷◌, map, drop, length, get_or, sym, ap, ◌∙◌}
use Rattle.std.specs.List.{list_all}
use Rattle.std.proofs.lemmas.List.{at_drop_more}
use Rattle.std.proofs.lemmas.List.Folds.{list_all-append}
use Rattle.hip_types.specs.declared.ty.Ty.{Ty}
use Rattle.hip_globals.specs.Constants.{joined}
use Rattle.hip_sound.specs.Constants.{all_have}
use Rattle.hip_sound.specs.Types.{all_pass}

-- An item that passes: the rest decides.
pub rest_decides : (test rest so_far whole : Bool) → so_far ≡ (test && rest) → so_far ≡ whole → test ≡ true → rest ≡ whole
rest_decides test rest so_far whole split is passes = ap (λ (t : Bool). t && rest) (sym passes) ∙ sym split ∙ is

-- The first item that fails decides.
pub item_decides : (test rest so_far whole : Bool) → so_far ≡ (test && rest) → so_far ≡ whole → test ≡ false → false ≡ whole
item_decides test rest so_far whole split is fails = ap (λ (t : Bool). t && rest) (sym fails) ∙ sym split ∙ is

pub list_next : {A B : Type 0} (test : B → Bool) (part : A → B) (xs : List A) (i : ℕ) (x : A) → i < length xs → x ≡ get_or xs i x → list_all test (map part (drop i xs)) ≡ (test (part x) && list_all test (map part (drop (i + 1) xs)))
list_next test part xs i x within is =
    at_drop_more (λ ys. list_all test (map part ys)) xs i x within ∙ ap (λ y. test (part y) && list_all test (map part (drop (i + 1) xs))) (sym is)

pub joined_next : {A B : Type 0} (test : B → Bool) (parts : A → List B) (xs : List A) (i : ℕ) (x : A) → i < length xs → x ≡ get_or xs i x → list_all test (joined (map parts (drop i xs))) ≡ (list_all test (parts x) && list_all test (joined (map parts (drop (i + 1) xs))))
joined_next test parts xs i x within is =
    at_drop_more (λ ys. list_all test (joined (map parts ys))) xs i x within
    ∙ list_all-append test (parts (get_or xs i x)) (joined (map parts (drop (i + 1) xs)))
    ∙ ap (λ y. list_all test (parts y) && list_all test (joined (map parts (drop (i + 1) xs)))) (sym is)

pub have_next : {A : Type 0} (test : A → Ty → Bool) (xs : List A) (t : Ty) (i : ℕ) (x : A) → i < length xs → x ≡ get_or xs i x → all_have (map test (drop i xs)) t ≡ (test x t && all_have (map test (drop (i + 1) xs)) t)
have_next test xs t i x within is =
    at_drop_more (λ ys. all_have (map test ys) t) xs i x within ∙ ap (λ y. test y t && all_have (map test (drop (i + 1) xs)) t) (sym is)

pub pass_next : {A B : Type 0} (test : A → B → Bool) (xs : List A) (ys : List B) (i : ℕ) (x : A) (y : B) → i < length xs → i < length ys → x ≡ get_or xs i x → y ≡ get_or ys i y → all_pass (map test (drop i xs)) (drop i ys) ≡ (test x y && all_pass (map test (drop (i + 1) xs)) (drop (i + 1) ys))
pass_next test xs ys i x y within low x_is y_is =
    at_drop_more (λ zs. all_pass (map test zs) (drop i ys)) xs i x within
    ∙ at_drop_more (λ zs. all_pass (test (get_or xs i x) ∷ map test (drop (i + 1) xs)) zs) ys i y low
    ∙ ap (λ z. test z (get_or ys i y) && all_pass (map test (drop (i + 1) xs)) (drop (i + 1) ys)) (sym x_is)
    ∙ ap (λ z. test x z && all_pass (map test (drop (i + 1) xs)) (drop (i + 1) ys)) (sym y_is)
