-- Lists with a test of each item with each later one.
use Rattle.std.proofs.Common.{ℕ, ◌+◌, ◌≡◌, ◌<◌, ◌&&◌, ◌||◌, not, nat_eq, cond, Bool, true, false, List, [], ◌∷◌, ◌++◌, take, drop, length, get_or, refl, sym, ap, subst, ◌∙◌}
use Rattle.std.specs.List.{list_all, list_any}
use Rattle.std.proofs.lemmas.List.{take_more, take-append-drop}
use Rattle.std.proofs.lemmas.List.Folds.{list_all-append, list_any-append}
use Rattle.std.proofs.lemmas.Bool.{and_parts}
use Rattle.hip_types.specs.declared.number.Bits.{Bits}
use Rattle.hip_types.specs.Widths.{bits_of}
use Rattle.hip_tree.specs.declared.block.Case.{Case}
use Rattle.hip_sound.specs.Equal.{same_bits}
use Rattle.hip_sound.specs.Places.{each_pair, differ, cases_differ}

shuffled : (a b c d : Bool) → ((a && (b && true)) && (c && d)) ≡ ((a && c) && (b && d))
shuffled true true c d = refl
shuffled true false true d = refl
shuffled true false false d = refl
shuffled false b c d = refl

-- One item more is tested with each earlier one.
pub each_pair-push : {A : Type 0} (test : A → A → Bool) (xs : List A) (x : A) → each_pair test (xs ++ x ∷ []) ≡ (each_pair test xs && list_all (λ y. test y x) xs)
each_pair-push test [] x = refl
each_pair-push test (y ∷ ys) x =
    ap (λ b. b && each_pair test (ys ++ x ∷ [])) (list_all-append (test y) ys (x ∷ []))
    ∙ ap (λ b. (list_all (test y) ys && (test y x && true)) && b) (each_pair-push test ys x)
    ∙ shuffled (list_all (test y) ys) (test y x) (each_pair test ys) (list_all (λ z. test z x) ys)

each_pair-front : {A : Type 0} (test : A → A → Bool) (xs ys : List A) → each_pair test (xs ++ ys) ≡ true → each_pair test xs ≡ true
each_pair-front test [] ys e = refl
each_pair-front test (x ∷ xs) ys e =
    let both = and_parts (list_all (test x) (xs ++ ys)) (each_pair test (xs ++ ys)) e in
    let here = and_parts (list_all (test x) xs) (list_all (test x) ys) (sym (list_all-append (test x) xs ys) ∙ both.0) in
    ap (λ b. b && each_pair test xs) here.0 ∙ each_pair-front test xs ys both.1

-- If the test fails in a prefix, it fails in the list.
pub fails_in_front : {A : Type 0} (test : A → A → Bool) (xs : List A) (k : ℕ) → each_pair test (take k xs) ≡ false → false ≡ each_pair test xs
fails_in_front test xs k e = by_test (each_pair test xs) refl
  where
    by_test : (b : Bool) → each_pair test xs ≡ b → false ≡ each_pair test xs
    by_test false f = sym f
    by_test true f =
        let front : each_pair test (take k xs) ≡ true = each_pair-front test (take k xs) (drop k xs) (ap (each_pair test) (take-append-drop k xs) ∙ f) in
        let off : false ≡ true = sym e ∙ front in
        cc

module _ {A : Type 0} (test : A → A → Bool) (xs : List A) (i : ℕ) (x : A) (within : i < length xs) (is : x ≡ get_or xs i x) where
  pub take_item : take (i + 1) xs ≡ take i xs ++ x ∷ []
  take_item = subst (λ y. take (i + 1) xs ≡ take i xs ++ y ∷ []) (sym is) (take_more xs i x within)

  pub pair_step : each_pair test (take (i + 1) xs) ≡ (each_pair test (take i xs) && list_all (λ y. test y x) (take i xs))
  pair_step = ap (each_pair test) take_item ∙ each_pair-push test (take i xs) x

-- ---- cases of a switch

all_differ : (b : Bits) (cs : List Case) (d : Case) → list_all (λ c. differ c d) cs ≡ not (list_any (λ c. same_bits c.value d.value) cs)
all_differ b [] d = refl
all_differ b (c ∷ cs) d = ap (λ z. not (same_bits c.value d.value) && z) (all_differ b cs d) ∙ de_morgan (same_bits c.value d.value) (list_any (λ e. same_bits e.value d.value) cs)
  where
    de_morgan : (p q : Bool) → (not p && not q) ≡ not (p || q)
    de_morgan true q = refl
    de_morgan false q = refl

module _ (cs : List Case) (i : ℕ) (x : Case) (within : i < length cs) (is : x ≡ get_or cs i x) (bits : ℕ) (width : bits ≡ bits_of x.value.width) (earlier : ℕ × ℕ → Bool) (seen : (b : Bits) → earlier (bits_of b.width, b.value) ≡ list_any (λ c. same_bits c.value b) (take i cs)) where
  is_seen : earlier (bits, x.value.value) ≡ list_any (λ c. same_bits c.value x.value) (take i cs)
  is_seen = ap (λ k. earlier (k, x.value.value)) width ∙ seen x.value

  step : cases_differ (take (i + 1) cs) ≡ (cases_differ (take i cs) && not (earlier (bits, x.value.value)))
  step = pair_step differ cs i x within is ∙ ap (λ b. cases_differ (take i cs) && b) (all_differ x.value (take i cs) x ∙ ap not (sym is_seen))

  pub case_repeats : (is_new : Bool) → is_new ≡ not (earlier (bits, x.value.value)) → is_new ≡ false → false ≡ cases_differ cs
  case_repeats is_new new off = fails_in_front differ cs (i + 1) (step ∙ ap (λ b. cases_differ (take i cs) && b) (sym new ∙ off) ∙ and_false (cases_differ (take i cs)))
    where
      and_false : (b : Bool) → (b && false) ≡ false
      and_false true = refl
      and_false false = refl

  pub cases_still_differ : (is_new : Bool) → is_new ≡ not (earlier (bits, x.value.value)) → is_new ≡ true → cases_differ (take i cs) ≡ true → cases_differ (take (i + 1) cs) ≡ true
  cases_still_differ is_new new on so_far = step ∙ ap (λ b. b && not (earlier (bits, x.value.value))) so_far ∙ sym new ∙ on

  pub case_is_seen : (later : ℕ × ℕ → Bool) → ((q : ℕ × ℕ) → later q ≡ cond (nat_eq bits q.0 && nat_eq x.value.value q.1) true (earlier q)) → (b : Bits) → later (bits_of b.width, b.value) ≡ list_any (λ c. same_bits c.value b) (take (i + 1) cs)
  case_is_seen later grows b =
      grows (bits_of b.width, b.value)
      ∙ ap (λ k. cond (nat_eq k (bits_of b.width) && nat_eq x.value.value b.value) true (earlier (bits_of b.width, b.value))) width
      ∙ ap (λ z. cond (same_bits x.value b) true z) (seen b)
      ∙ at_end (same_bits x.value b) (list_any (λ c. same_bits c.value b) (take i cs))
      ∙ sym (ap (list_any (λ c. same_bits c.value b)) (take_item differ cs i x within is) ∙ list_any-append (λ c. same_bits c.value b) (take i cs) (x ∷ []))
    where
      at_end : (p q : Bool) → cond p true q ≡ (q || (p || false))
      at_end true true = refl
      at_end true false = refl
      at_end false true = refl
      at_end false false = refl
