-- Sums of weights over numbers that differ.
use Rattle.std.proofs.Common.{◌≡◌, ℕ, zero, suc, ◌+◌, ◌*◌, ◌≤◌, true, false, List, [], ◌∷◌, map, length, Option, Some, None, slice_get, refl, sym, ap, ◌∙◌, arith, length-append}
use Rattle.std.specs.Prelude.{nat_eq}
use Rattle.std.specs.Cmp.{nat_eq_equiv}
use Rattle.std.specs.List.{AllByRecursion, IsDistinct, flat_map}

-- The weight at a place of a list; 0 where there is none.
abbrev pub weight : List ℕ → ℕ → ℕ
weight [] f = 0
weight (w ∷ ws) zero = w
weight (w ∷ ws) (suc f) = weight ws f

-- All weights of a list.
abbrev pub whole : List ℕ → ℕ
whole [] = 0
whole (w ∷ ws) = w + whole ws

-- The weights at these places.
abbrev pub weights_at : List ℕ → List ℕ → ℕ
weights_at ws [] = 0
weights_at ws (f ∷ fs) = weight ws f + weights_at ws fs

-- The list without the weight at a place.
abbrev zeroed : List ℕ → ℕ → List ℕ
zeroed [] f = []
zeroed (w ∷ ws) zero = 0 ∷ ws
zeroed (w ∷ ws) (suc f) = w ∷ zeroed ws f

zeroed_whole : (ws : List ℕ) (f : ℕ) → whole (zeroed ws f) + weight ws f ≡ whole ws
zeroed_whole [] f = refl
zeroed_whole (w ∷ ws) zero = omega arith
zeroed_whole (w ∷ ws) (suc f) = let rest = zeroed_whole ws f in omega (arith, rest)

zeroed_other : (ws : List ℕ) (f g : ℕ) → (f ≡ g → ⊥) → weight (zeroed ws f) g ≡ weight ws g
zeroed_other [] f g apart = refl
zeroed_other (w ∷ ws) zero zero apart = absurd (apart refl)
zeroed_other (w ∷ ws) zero (suc g) apart = refl
zeroed_other (w ∷ ws) (suc f) zero apart = refl
zeroed_other (w ∷ ws) (suc f) (suc g) apart = zeroed_other ws f g (λ e. apart (ap suc e))

differ : (f g : ℕ) → nat_eq f g ≡ false → f ≡ g → ⊥
differ f g e same =
    let yes_same : nat_eq f g ≡ true = ap (nat_eq f) (sym same) ∙ nat_eq_equiv.refl f in
    let z : true ≡ false = sym yes_same ∙ e in
    cc

zeroed_others : (ws : List ℕ) (f : ℕ) (fs : List ℕ) → AllByRecursion (λ y. nat_eq f y ≡ false) fs
    → weights_at (zeroed ws f) fs ≡ weights_at ws fs
zeroed_others ws f [] h = refl
zeroed_others ws f (g ∷ fs) h =
    let here = zeroed_other ws f g (differ f g h.0) in
    let rest = zeroed_others ws f fs h.1 in
    omega (arith, here, rest)

-- The weights at places that differ are at most all of them.
pub weights_within : (fs ws : List ℕ) → IsDistinct nat_eq fs → weights_at ws fs ≤ whole ws
unfolding IsDistinct
weights_within [] ws d = omega arith
weights_within (f ∷ fs) ws d =
    let rest = weights_within fs (zeroed ws f) d.1 in
    omega (arith, rest, zeroed_whole ws f, zeroed_others ws f fs d.0)

-- ---- the weights of texts

-- How long the text of an item is; 0 where there is none.
abbrev pub size_of : {A : Type 0} → (A → List ℕ) → Option A → ℕ
size_of text None = 0
size_of text (Some x) = length (text x)

pub weight_of : {A : Type 0} (text : A → List ℕ) (xs : List A) (f : ℕ)
    → weight (map (λ x. length (text x)) xs) f ≡ size_of text (slice_get xs f)
weight_of text [] f = refl
weight_of text (x ∷ xs) zero = refl
weight_of text (x ∷ xs) (suc f) = weight_of text xs f

pub whole_of : {A : Type 0} (text : A → List ℕ) (xs : List A)
    → whole (map (λ x. length (text x)) xs) ≡ length (flat_map text xs)
whole_of text [] = refl
whole_of text (x ∷ xs) =
    let rest = whole_of text xs in
    omega (arith, rest, length-append (text x) (flat_map text xs))

-- There are at most half as many items as their texts have bytes, if each text has two bytes.
pub half_as_many : {A : Type 0} (text : A → List ℕ) → ((x : A) → 2 ≤ length (text x)) → (xs : List A)
    → 2 * length xs ≤ length (flat_map text xs)
half_as_many text long [] = omega arith
half_as_many text long (x ∷ xs) =
    let rest = half_as_many text long xs in
    let here = long x in
    omega (arith, rest, here, length-append (text x) (flat_map text xs))
