-- The texts of lists, one item longer.
use Rattle.std.proofs.Common.{ℕ, zero, suc, ◌+◌, ◌<◌, ◌≡◌, List, [], ◌∷◌, ◌++◌, map, take, length, get_or, codes, refl, sym, ap, subst, ◌∙◌, append_assoc, append-nil, add-one, arith}
use Rattle.std.specs.List.{flat_map}
use Rattle.std.proofs.lemmas.List.{take_more, map_push}
use Rattle.std.proofs.lemmas.Grind.{flat_map-append}
use Rattle.hip_grammar.specs.Show.{commas, after_commas, braced}
use Rattle.hip_write.specs.Parts.{separator_at}

pub separator_after : (i : ℕ) → separator_at (i + 1) ≡ codes ", "
separator_after i = rw (add-one i) refl

module _ {X : Type 0} (text : X → List ℕ) where
  taken : (xs : List X) (i : ℕ) (x : X) → i < length xs → x ≡ get_or xs i x → take (i + 1) xs ≡ take i xs ++ x ∷ []
  taken xs i x within is = subst (λ y. take (i + 1) xs ≡ take i xs ++ y ∷ []) (sym is) (take_more xs i x within)

  pub flat_more : (xs : List X) (i : ℕ) (x : X) → i < length xs → x ≡ get_or xs i x → flat_map text (take (i + 1) xs) ≡ flat_map text (take i xs) ++ text x
  flat_more xs i x within is = ap (flat_map text) (taken xs i x within is) ∙ flat_map-append text (take i xs) (x ∷ []) ∙ ap (λ t. flat_map text (take i xs) ++ t) (append-nil (text x))

  after-push : (ts : List (List ℕ)) (t : List ℕ) → after_commas (ts ++ t ∷ []) ≡ after_commas ts ++ (codes ", " ++ t)
  after-push [] t = ap (λ u. codes ", " ++ u) (append-nil t)
  after-push (s ∷ ts) t =
      ap (λ u. codes ", " ++ (s ++ u)) (after-push ts t)
      ∙ ap (λ u. codes ", " ++ u) (sym (append_assoc s (after_commas ts) (codes ", " ++ t)))
      ∙ sym (append_assoc (codes ", ") (s ++ after_commas ts) (codes ", " ++ t))

  pub after_more : (xs : List X) (i : ℕ) (x : X) → i < length xs → x ≡ get_or xs i x → after_commas (map text (take (i + 1) xs)) ≡ after_commas (map text (take i xs)) ++ (codes ", " ++ text x)
  after_more xs i x within is = ap (λ ys. after_commas (map text ys)) (taken xs i x within is) ∙ ap after_commas (map_push text (take i xs) x) ∙ after-push (map text (take i xs)) (text x)

  commas-push : (t : List ℕ) (ts : List (List ℕ)) (u : List ℕ) → commas ((t ∷ ts) ++ u ∷ []) ≡ commas (t ∷ ts) ++ (codes ", " ++ u)
  commas-push t ts u = ap (λ v. t ++ v) (after-push ts u) ∙ sym (append_assoc t (after_commas ts) (codes ", " ++ u))

  pub commas_more : (xs : List X) (i : ℕ) (x : X) (separator : List ℕ) → i < length xs → x ≡ get_or xs i x → separator ≡ separator_at i → commas (map text (take (i + 1) xs)) ≡ commas (map text (take i xs)) ++ (separator ++ text x)
  commas_more [] i x separator within is at = absurd (let h : ⊥ = omega (arith, within) in h)
  commas_more (y ∷ ys) zero x separator within is at = rw (at, is) (append-nil (text y))
  commas_more (y ∷ ys) (suc i) x separator within is at =
      let inner : take (i + 1) ys ≡ take i ys ++ x ∷ [] = taken ys i x (omega (arith, within)) is in
      let texts : map text (take (i + 1) ys) ≡ map text (take i ys) ++ text x ∷ [] = ap (map text) inner ∙ map_push text (take i ys) x in
      let shift : suc i + 1 ≡ suc (i + 1) = omega arith in
      ap (λ k. commas (map text (take k (y ∷ ys)))) shift
      ∙ ap (λ ts. commas (text y ∷ ts)) texts
      ∙ commas-push (text y) (map text (take i ys)) (text x)
      ∙ ap (λ s. commas (text y ∷ map text (take i ys)) ++ (s ++ text x)) (sym at)

  pub braced_some : (xs : List X) → 0 < length xs → braced (map text xs) ≡ codes "{ " ++ (commas (map text xs) ++ codes " }")
  braced_some [] some = absurd (let h : ⊥ = omega (arith, some) in h)
  braced_some (x ∷ xs) some = refl
