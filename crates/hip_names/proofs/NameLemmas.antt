-- References to names, and the names themselves.
use Rattle.std.proofs.Common.{ℕ, suc, ◌≡◌, ◌+◌, ◌<◌, ◌||◌, not, Bool, true, false, List, [], ◌∷◌, ◌++◌, map, drop, length, get_or, Option, Some, None, option_map, is_some, cond, nat_lt, Bor, refl, sym, ap, ◌∙◌, arith}
use Rattle.std.specs.Prelude.{position}
use Rattle.std.specs.List.{list_any, position_or_len}
use Rattle.std.specs.Str.{bytes_eq}
use Rattle.std.proofs.lemmas.List.{at_drop_more, length-map, map-append}
use Rattle.std.proofs.lemmas.List.Folds.{list_any-append}
use Rattle.hip_names.specs.Laws.NumberLaws.{number_of-cons}
use Rattle.hip_names.specs.Names.{is_among, number_of}

abbrev pub pointed : List (Bor (List ℕ)) → List (List ℕ)
pointed names = map (λ name. name.now) names

pub among-pointed : (name : List ℕ) (names : List (Bor (List ℕ)))
    → list_any (λ k. bytes_eq name k.now) names ≡ is_among (pointed names) name
among-pointed name [] = refl
among-pointed name (x ∷ xs) = ap (λ b. bytes_eq name x.now || b) (among-pointed name xs)

place-pointed : (name : List ℕ) (names : List (Bor (List ℕ)))
    → position_or_len (λ k. bytes_eq name k.now) names ≡ position_or_len (bytes_eq name) (pointed names)
place-pointed name [] = refl
place-pointed name (x ∷ xs) = ap (λ n. cond (not (bytes_eq name x.now)) (1 + n) 0) (place-pointed name xs)

pub number-pointed : (name : List ℕ) (names : List (Bor (List ℕ)))
    → position (λ k. bytes_eq name k.now) names ≡ number_of (pointed names) name
number-pointed name names =
    let found : ℕ → ℕ → Option ℕ = λ at len. cond (nat_lt at len) (Some at) None in
    ap (λ at. found at (length names)) (place-pointed name names)
    ∙ ap (λ len. found (position_or_len (bytes_eq name) (pointed names)) len) (sym (length-map names (λ k. k.now)))

-- ---- a search by place

step : (b : Bool) (i : ℕ) (o : Option ℕ)
    → option_map (λ k. i + k) (cond b (Some 0) (option_map suc o)) ≡ cond b (Some i) (option_map (λ k. i + 1 + k) o)
step true i o = let e : i + 0 ≡ i = omega arith in ap Some e
step false i None = refl
step false i (Some k) = let e : i + suc k ≡ i + 1 + k = omega arith in ap Some e

-- A search from place i compares the name there, and goes on from place i + 1 if it is another name.
pub number-step : (names : List (Bor (List ℕ))) (name : List ℕ) (i : ℕ) (d : Bor (List ℕ)) (b : Bool)
    → i < length names → b ≡ bytes_eq name (get_or names i d).now
    → option_map (λ k. i + k) (number_of (pointed (drop i names)) name)
    ≡ cond b (Some i) (option_map (λ k. i + 1 + k) (number_of (pointed (drop (i + 1) names)) name))
number-step names name i d b h e =
    at_drop_more (λ ys. option_map (λ k. i + k) (number_of (pointed ys) name)) names i d h
    ∙ ap (option_map (λ k. i + k)) (number_of-cons (get_or names i d).now (pointed (drop (i + 1) names)) name)
    ∙ step (bytes_eq name (get_or names i d).now) i (number_of (pointed (drop (i + 1) names)) name)
    ∙ ap (λ t. cond t (Some i) (option_map (λ k. i + 1 + k) (number_of (pointed (drop (i + 1) names)) name))) (sym e)

-- ---- two lists in a row

-- The number in the first list or, if there is none, n plus the number in the second.
abbrev pub or_after : ℕ → Option ℕ → Option ℕ → Option ℕ
or_after n (Some k) later = Some k
or_after n None later = option_map (λ k. n + k) later

first : (b : Bool) (n : ℕ) (o later : Option ℕ)
    → cond b (Some 0) (option_map suc (or_after n o later)) ≡ or_after (suc n) (cond b (Some 0) (option_map suc o)) later
first true n o later = refl
first false n (Some k) later = refl
first false n None None = refl
first false n None (Some k) = let e : suc (n + k) ≡ suc n + k = omega arith in ap Some e

none_before : (o : Option ℕ) → o ≡ option_map (λ k. 0 + k) o
none_before None = refl
none_before (Some k) = let e : k ≡ 0 + k = omega arith in ap Some e

pub number_of-rows : (xs ys : List (List ℕ)) (name : List ℕ)
    → number_of (xs ++ ys) name ≡ or_after (length xs) (number_of xs name) (number_of ys name)
number_of-rows [] ys name = none_before (number_of ys name)
number_of-rows (x ∷ xs) ys name =
    number_of-cons x (xs ++ ys) name
    ∙ ap (λ o. cond (bytes_eq name x) (Some 0) (option_map suc o)) (number_of-rows xs ys name)
    ∙ first (bytes_eq name x) (length xs) (number_of xs name) (number_of ys name)
    ∙ ap (λ o. or_after (suc (length xs)) o (number_of ys name)) (sym (number_of-cons x xs name))

-- The number of a name in two lists one after the other, where the first is a list of references.
pub number-rows : (few : List (Bor (List ℕ))) (more : List (List ℕ)) (name : List ℕ)
    → number_of (pointed few ++ more) name ≡ or_after (length few) (number_of (pointed few) name) (number_of more name)
number-rows few more name =
    number_of-rows (pointed few) more name
    ∙ ap (λ n. or_after n (number_of (pointed few) name) (number_of more name)) (length-map few (λ k. k.now))

-- A name is among others exactly if it has a number there.
suc_some : (o : Option ℕ) → is_some (option_map suc o) ≡ is_some o
suc_some None = refl
suc_some (Some k) = refl

by_first : (b : Bool) (o : Option ℕ) → is_some (cond b (Some 0) (option_map suc o)) ≡ (b || is_some o)
by_first true o = refl
by_first false o = suc_some o

pub numbered-among : (names : List (List ℕ)) (name : List ℕ) → is_some (number_of names name) ≡ is_among names name
numbered-among [] name = refl
numbered-among (x ∷ xs) name =
    ap is_some (number_of-cons x xs name) ∙ by_first (bytes_eq name x) (number_of xs name)
    ∙ ap (λ b. bytes_eq name x || b) (numbered-among xs name)

pub among-rows : (few more : List (List ℕ)) (name : List ℕ)
    → is_among (few ++ more) name ≡ (is_some (number_of few name) || is_among more name)
among-rows few more name =
    list_any-append (bytes_eq name) few more ∙ ap (λ b. b || is_among more name) (sym (numbered-among few name))
