-- Tables of a function's names that grow.
use Rattle.std.proofs.Common.{ℕ, ◌+◌, ◌≡◌, ◌<◌, List, [], ◌∷◌, ◌++◌, map, take, length, get_or, sym, ap, subst, ◌∙◌, append_assoc, append-nil, zero-add, arith}
use Rattle.std.proofs.lemmas.List.{map-append, length-take-le}
use Rattle.hip_globals.specs.Constants.{joined}
use Rattle.hip_names.specs.Tables.{Gains}
use Rattle.hip_sound.specs.Names.{numbered}
use Rattle.hip_names.specs.Tables.{Entry, TableStandsFor}
use Rattle.hip_typing.proofs.NameLists.{joined-push, numbered_from-push}
use Rattle.hip_typing.proofs.RegisterLemmas.{take_one}

-- The numbered items of a list, with one more item.
pub numbered_more : {A B : Type 0} (make : ℕ → A → B) (xs : List A) (i : ℕ) (x : A) → i < length xs → x ≡ get_or xs i x → numbered make (take (i + 1) xs) ≡ numbered make (take i xs) ++ make i x ∷ []
numbered_more make xs i x within is =
    let short : 0 + length (take i xs) ≡ i = zero-add (length (take i xs)) ∙ length-take-le i xs (omega (arith, within)) in
    ap (numbered make) (take_one xs i x within is) ∙ numbered_from-push 0 make (take i xs) x ∙ ap (λ k. numbered make (take i xs) ++ make k x ∷ []) short

module _ {V : Type 0} {ns ms ks : List (List ℕ)} {vs us ws : List V} where
  pub gains_then : (xs ys : List (Entry V)) → Gains ns vs ms us xs → Gains ms us ks ws ys → Gains ns vs ks ws (xs ++ ys)
  gains_then xs ys first next = record {
    gains = λ before s.
        let grown : TableStandsFor ks ws (before ++ xs ++ ys) = next.gains (before ++ xs) (first.gains before s) in
        subst (λ (es : List (Entry V)). TableStandsFor ks ws es) (append_assoc before xs ys) grown;
  }

  pub gains_one : {A : Type 0} (g : A → Entry V) (xs : List A) (i : ℕ) (x : A) → i < length xs → x ≡ get_or xs i x → Gains ns vs ms us (map g (take i xs)) → Gains ms us ks ws (g x ∷ []) → Gains ns vs ks ws (map g (take (i + 1) xs))
  gains_one g xs i x within is first next =
      subst (λ (es : List (Entry V)). Gains ns vs ks ws es) (sym (ap (map g) (take_one xs i x within is) ∙ map-append g (take i xs) (x ∷ []))) (gains_then (map g (take i xs)) (g x ∷ []) first next)

  pub gains_numbered : {A : Type 0} (make : ℕ → A → Entry V) (xs : List A) (i : ℕ) (x : A) → i < length xs → x ≡ get_or xs i x → Gains ns vs ms us (numbered make (take i xs)) → Gains ms us ks ws (make i x ∷ []) → Gains ns vs ks ws (numbered make (take (i + 1) xs))
  gains_numbered make xs i x within is first next =
      subst (λ (es : List (Entry V)). Gains ns vs ks ws es) (sym (numbered_more make xs i x within is)) (gains_then (numbered make (take i xs)) (make i x ∷ []) first next)

  pub gains_some : {A : Type 0} (make : ℕ → A → List (Entry V)) (xs : List A) (i : ℕ) (x : A) → i < length xs → x ≡ get_or xs i x → Gains ns vs ms us (joined (numbered make (take i xs))) → Gains ms us ks ws (make i x) → Gains ns vs ks ws (joined (numbered make (take (i + 1) xs)))
  gains_some make xs i x within is first next =
      let whole : joined (numbered make (take (i + 1) xs)) ≡ joined (numbered make (take i xs)) ++ make i x = ap joined (numbered_more make xs i x within is) ∙ joined-push (numbered make (take i xs)) (make i x) in
      subst (λ (es : List (Entry V)). Gains ns vs ks ws es) (sym whole) (gains_then (joined (numbered make (take i xs))) (make i x) first next)

-- A table that gained no entries is as it was.
pub gains_none : {V : Type 0} (ns : List (List ℕ)) (vs : List V) → Gains ns vs ns vs []
gains_none ns vs = record { gains = λ before s. subst (λ (es : List (Entry _)). TableStandsFor ns vs es) (sym (append-nil before)) s }
