-- Lists of names with their places, one longer.
use Rattle.std.proofs.Common.{ℕ, ◌+◌, ◌≡◌, ◌<◌, List, [], ◌∷◌, ◌++◌, map, take, length, get_or, refl, sym, ap, subst, ◌∙◌, append_assoc, append-nil, zero-add, arith}
use Rattle.std.proofs.lemmas.List.{take_more, map-append, length-take-le}
use Rattle.hip_sound.specs.Names.{Named, numbered, numbered_from}
use Rattle.hip_typing.specs.Seen.NamesSeen.{seen}
use Rattle.hip_globals.specs.Constants.{joined}
use Rattle.hip_typing.specs.declared.rules.named.NamedPlace.{NamedPlace}

pub numbered_from-push : {A B : Type 0} (n : ℕ) (make : ℕ → A → B) (xs : List A) (x : A) → numbered_from n make (xs ++ x ∷ []) ≡ numbered_from n make xs ++ make (n + length xs) x ∷ []
numbered_from-push n make [] x = let e : n + 0 ≡ n = omega arith in rw e refl
numbered_from-push n make (y ∷ ys) x =
    let e : n + length (y ∷ ys) ≡ n + 1 + length ys = omega arith in
    let rest = numbered_from-push (n + 1) make ys x in
    ap (λ zs. make n y ∷ zs) (rest ∙ ap (λ k. numbered_from (n + 1) make ys ++ make k x ∷ []) (sym e))

pub one_more_name : {A : Type 0} (make : ℕ → A → Named) (base : List Named) (xs : List A) (i : ℕ) (x : A) (names : List NamedPlace) (p : NamedPlace) → i < length xs → x ≡ get_or xs i x → seen names ≡ base ++ numbered make (take i xs) → seen (p ∷ []) ≡ make i x ∷ [] → seen (names ++ p ∷ []) ≡ base ++ numbered make (take (i + 1) xs)
one_more_name make base xs i x names p within is so_far same =
    let prefix : take (i + 1) xs ≡ take i xs ++ x ∷ [] = subst (λ y. take (i + 1) xs ≡ take i xs ++ y ∷ []) (sym is) (take_more xs i x within) in
    let short : 0 + length (take i xs) ≡ i = zero-add (length (take i xs)) ∙ length-take-le i xs (omega (arith, within)) in
    let numbers : numbered make (take (i + 1) xs) ≡ numbered make (take i xs) ++ make i x ∷ [] = ap (numbered make) prefix ∙ numbered_from-push 0 make (take i xs) x ∙ ap (λ k. numbered make (take i xs) ++ make k x ∷ []) short in
    map-append _ names (p ∷ []) ∙ ap (λ zs. zs ++ seen (p ∷ [])) so_far ∙ ap (λ zs. base ++ numbered make (take i xs) ++ zs) same ∙ append_assoc base (numbered make (take i xs)) (make i x ∷ []) ∙ ap (λ zs. base ++ zs) (sym numbers)

pub joined-push : {A : Type 0} (xs : List (List A)) (y : List A) → joined (xs ++ y ∷ []) ≡ joined xs ++ y
joined-push [] y = append-nil y
joined-push (x ∷ xs) y = ap (λ zs. x ++ zs) (joined-push xs y) ∙ sym (append_assoc x (joined xs) y)

-- Names with one more item, which does not depend on its number.
pub one_more : {A : Type 0} (make : A → Named) (base : List Named) (xs : List A) (i : ℕ) (x : A) (names : List NamedPlace) (p : NamedPlace) → i < length xs → x ≡ get_or xs i x → seen names ≡ base ++ map make (take i xs) → seen (p ∷ []) ≡ make x ∷ [] → seen (names ++ p ∷ []) ≡ base ++ map make (take (i + 1) xs)
one_more make base xs i x names p within is so_far same =
    let prefix : take (i + 1) xs ≡ take i xs ++ x ∷ [] = subst (λ y. take (i + 1) xs ≡ take i xs ++ y ∷ []) (sym is) (take_more xs i x within) in
    map-append _ names (p ∷ []) ∙ ap (λ zs. zs ++ seen (p ∷ [])) so_far ∙ ap (λ zs. base ++ map make (take i xs) ++ zs) same ∙ append_assoc base (map make (take i xs)) (make x ∷ []) ∙ ap (λ zs. base ++ zs) (sym (ap (map make) prefix ∙ map-append make (take i xs) (x ∷ [])))

-- Names with one more item, which may have several names.
pub more_names : {A : Type 0} (make : ℕ → A → List Named) (base : List Named) (xs : List A) (i : ℕ) (x : A) (names added : List NamedPlace) → i < length xs → x ≡ get_or xs i x → seen names ≡ base ++ joined (numbered make (take i xs)) → seen added ≡ seen names ++ make i x → seen added ≡ base ++ joined (numbered make (take (i + 1) xs))
more_names make base xs i x names added within is so_far more =
    let prefix : take (i + 1) xs ≡ take i xs ++ x ∷ [] = subst (λ y. take (i + 1) xs ≡ take i xs ++ y ∷ []) (sym is) (take_more xs i x within) in
    let short : 0 + length (take i xs) ≡ i = zero-add (length (take i xs)) ∙ length-take-le i xs (omega (arith, within)) in
    let numbers : numbered make (take (i + 1) xs) ≡ numbered make (take i xs) ++ make i x ∷ [] = ap (numbered make) prefix ∙ numbered_from-push 0 make (take i xs) x ∙ ap (λ k. numbered make (take i xs) ++ make k x ∷ []) short in
    let all : joined (numbered make (take (i + 1) xs)) ≡ joined (numbered make (take i xs)) ++ make i x = ap joined numbers ∙ joined-push (numbered make (take i xs)) (make i x) in
    more ∙ ap (λ zs. zs ++ make i x) so_far ∙ append_assoc base (joined (numbered make (take i xs))) (make i x) ∙ ap (λ zs. base ++ zs) (sym all)
