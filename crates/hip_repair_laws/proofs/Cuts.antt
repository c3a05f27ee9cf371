-- Where a text can be cut in one way alone.
use Rattle.std.proofs.Common.{◌≡◌, ◌⊎◌, inl, inr, ℕ, zero, suc, ◌<◌, ◌^◌, ◌&&◌, Bool, true, false, List, [], ◌∷◌, ◌++◌, map, Option, Some, None, slice_get, refl, sym, ap, ap₂, ◌∙◌, subst, arith}
use Rattle.std.specs.Prelude.{nat_lt, All}
use Rattle.std.specs.Fmt.{decimal}
use Rattle.std.specs.List.{list_all}
use Rattle.std.specs.Char.{digit_value}
use Rattle.std.specs.Str.Parse.{digits_value}
use Rattle.std.proofs.lemmas.Bool.{and_parts}
use Rattle.std.proofs.lemmas.List.Elements.{All-head, All-tail}
use Rattle.hip_names.specs.Names.{AllDiffer, IsAmong}
use Rattle.hip_num.specs.Laws.TextLaws.{decimal-number, decimal-value, digits-whole}
use Rattle.hip_num.specs.Texts.{is_nonempty}

abbrev head_or : ℕ → List ℕ → ℕ
head_or d [] = d
head_or d (x ∷ xs) = x

abbrev tail_of : List ℕ → List ℕ
tail_of [] = []
tail_of (x ∷ xs) = xs

pub same_head : (a b : ℕ) (xs ys : List ℕ) → a ∷ xs ≡ b ∷ ys → a ≡ b
same_head a b xs ys e = ap (head_or 0) e

pub same_tail : (a b : ℕ) (xs ys : List ℕ) → a ∷ xs ≡ b ∷ ys → xs ≡ ys
same_tail a b xs ys e = ap tail_of e

never_both : (x : Bool) → x ≡ true → x ≡ false → ⊥
never_both x e f = let z : true ≡ false = sym e ∙ f in cc

nothing_is : (c : ℕ) (xs : List ℕ) → [] ≡ c ∷ xs → ⊥
nothing_is c xs e = cc

-- Two texts begin with words whose bytes pass a test, and then come bytes that do not: the words are the same.
pub cut : (test : ℕ → Bool) (v w : List ℕ) (c d : ℕ) (xs ys : List ℕ) → list_all test v ≡ true
    → list_all test w ≡ true → test c ≡ false → test d ≡ false → v ++ c ∷ xs ≡ w ++ d ∷ ys
    → (v ≡ w) × (c ∷ xs ≡ d ∷ ys)
cut test [] [] c d xs ys p q f g e = (refl, e)
cut test [] (b ∷ w) c d xs ys p q f g e =
    absurd (never_both (test c) (ap test (same_head c b xs (w ++ d ∷ ys) e) ∙ (and_parts (test b) (list_all test w) q).0) f)
cut test (a ∷ v) [] c d xs ys p q f g e =
    absurd (never_both (test d) (ap test (sym (same_head a d (v ++ c ∷ xs) ys e))
    ∙ (and_parts (test a) (list_all test v) p).0) g)
cut test (a ∷ v) (b ∷ w) c d xs ys p q f g e =
    let more = cut test v w c d xs ys (and_parts (test a) (list_all test v) p).1
    (and_parts (test b) (list_all test w) q).1 f g (same_tail a b (v ++ c ∷ xs) (w ++ d ∷ ys) e) in
    (ap₂ (λ x (l : List ℕ). x ∷ l) (same_head a b (v ++ c ∷ xs) (w ++ d ∷ ys) e) more.0, more.1)

-- ---- numbers

abbrev pub is_decimal : ℕ → Bool
is_decimal b = nat_lt (digit_value b) 10

pub digits_pass : (n : ℕ) → n < 2 ^ 64 → list_all (λ b. nat_lt (digit_value b) 10) (decimal n) ≡ true
digits_pass n small =
    (and_parts (is_nonempty (decimal n)) (list_all (λ b. nat_lt (digit_value b) 10) (decimal n))
    (digits-whole 10 (decimal n) (decimal-number n small).0)).1

pub same_number : (m n : ℕ) → m < 2 ^ 64 → n < 2 ^ 64 → decimal m ≡ decimal n → m ≡ n
same_number m n a b e = sym (decimal-value m a) ∙ ap (digits_value 10) e ∙ decimal-value n b

-- ---- places

pub same_item : {A : Type 0} (a b : A) → Some a ≡ Some b → a ≡ b
same_item a b e = ap (λ o. inside a o) e
  where
    inside : {B : Type 0} → B → Option B → B
    inside d None = d
    inside d (Some x) = x

pub passes_at : {A : Type 0} (test : A → Bool) (xs : List A) (k : ℕ) (x : A) → list_all test xs ≡ true
    → slice_get xs k ≡ Some x → test x ≡ true
passes_at test [] k x e at = absurd (let z : ⊥ = cc in z)
passes_at test (y ∷ xs) zero x e at =
    subst (λ z. test z ≡ true) (same_item y x at) (and_parts (test y) (list_all test xs) e).0
passes_at test (y ∷ xs) (suc k) x e at = passes_at test xs k x (and_parts (test y) (list_all test xs) e).1 at

pub all_at : {A : Type 0} (F : A → Type 0) (xs : List A) (k : ℕ) (x : A) → All F xs → slice_get xs k ≡ Some x → F x
all_at F [] k x h at = absurd (let z : ⊥ = cc in z)
all_at F (y ∷ xs) zero x h at = subst F (same_item y x at) (All-head F y xs h)
all_at F (y ∷ xs) (suc k) x h at = all_at F xs k x (All-tail F y xs h) at

module _ {A : Type 0} (name : A → List ℕ) where
  among_at : (xs : List A) (k : ℕ) (x : A) → slice_get xs k ≡ Some x → IsAmong (map name xs) (name x)
  among_at [] k x at = absurd (let z : ⊥ = cc in z)
  among_at (y ∷ xs) zero x at = inl (ap name (same_item y x at))
  among_at (y ∷ xs) (suc k) x at = inr (among_at xs k x at)

  -- Where the names of items differ, two places with one name are one place.
  pub same_place : (xs : List A) (f g : ℕ) (a b : A) → AllDiffer (map name xs) → slice_get xs f ≡ Some a
      → slice_get xs g ≡ Some b → name a ≡ name b → f ≡ g
  same_place [] f g a b d at there e = absurd (let z : ⊥ = cc in z)
  same_place (x ∷ xs) zero zero a b d at there e = refl
  same_place (x ∷ xs) zero (suc g) a b d at there e =
      absurd (d.0 (subst (λ n. IsAmong (map name xs) n) (sym (ap name (same_item x a at) ∙ e)) (among_at xs g b there)))
  same_place (x ∷ xs) (suc f) zero a b d at there e =
      absurd (d.0 (subst (λ n. IsAmong (map name xs) n) (sym (ap name (same_item x b there) ∙ sym e)) (among_at xs f a at)))
  same_place (x ∷ xs) (suc f) (suc g) a b d at there e = ap suc (same_place xs f g a b d.1 at there e)
