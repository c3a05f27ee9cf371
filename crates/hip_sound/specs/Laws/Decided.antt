-- Tests that decide facts, and how they combine.
use Rattle.std.specs.Prelude.{ℕ, zero, suc, ◌+◌, ◌≡◌, ◌≤◌, ◌&&◌, ◌||◌, not, nat_le, Bool, true, false, List, [], ◌∷◌, get_or, All, Some, slice_get}
use Rattle.std.specs.List.{list_all, list_any, AllPairs}
use Rattle.std.specs.Bool.{Decides}
use Rattle.std.specs.Cmp.Derive.{both_true}
use Rattle.std.proofs.Common.{refl, subst, arith}
use Rattle.std.proofs.lemmas.Bool.{leb-true, le-leb, and_parts}
use Rattle.std.proofs.lemmas.List.Sums.{AllPass-from_list_all, list_all-from_AllPass}
use Rattle.std.proofs.lemmas.List.Elements.{All-cons, All-head, All-tail, All-nil}
use Rattle.std.proofs.lemmas.List.Kept.{AllPairs-cons}
use Rattle.hip_sound.specs.Requirement.{Requirement, each_from, each}
use Rattle.hip_sound.specs.Places.{each_pair}

pub both-decides : {P Q : Type 0} (a b : Bool) → Decides a P → Decides b Q → Decides (a && b) (P × Q)
both-decides a b p q = (λ e. let h = and_parts a b e in (p.0 h.0, q.0 h.1), λ h. both_true (p.1 h.0) (q.1 h.1))

pub all-decides : {X : Type 0} (test : X → Bool) (P : X → Type 0) (xs : List X)
    → ((x : X) → Decides (test x) (P x))
    → Decides (list_all test xs) (All P xs)
all-decides test P xs d = (
  λ e k x within. (d (get_or xs k x)).0 (AllPass-from_list_all test xs e k x within),
  λ h. list_all-from_AllPass test xs (λ k x within. (d (get_or xs k x)).1 (h k x within)),
)

pub le-decides : (m n : ℕ) → Decides (nat_le m n) (m ≤ n)
le-decides m n = (leb-true m n, le-leb m n)

not_false : (b : Bool) → not b ≡ true → ¬ (b ≡ true)
not_false true e h = cc
not_false false e h = cc

false_not : (b : Bool) → ¬ (b ≡ true) → not b ≡ true
false_not true h = absurd (h refl)
false_not false h = refl

pub not-decides : {P : Type 0} (b : Bool) → Decides b P → Decides (not b) (¬ P)
not-decides b d = (λ e p. not_false b e (d.1 p), λ n. false_not b (λ e. n (d.0 e)))

-- If the disjunction of two tests does not pass, neither of them does.
any_cases : (a b : Bool) → ¬ ((a || b) ≡ true) → (¬ (a ≡ true)) × (¬ (b ≡ true))
any_cases true b h = absurd (h refl)
any_cases false b h = (λ e. cc, h)

none_first : (a b : Bool) → ¬ (a ≡ true) → ¬ (b ≡ true) → ¬ ((a || b) ≡ true)
none_first true b h g = absurd (h refl)
none_first false b h g = g

none_of : {X : Type 0} (test : X → Bool) (xs : List X) → ¬ (list_any test xs ≡ true)
    → All (λ x. ¬ (test x ≡ true)) xs
none_of test [] h = All-nil (λ y. ¬ (test y ≡ true))
none_of test (x ∷ xs) h =
    let both = any_cases (test x) (list_any test xs) h in
    All-cons (λ y. ¬ (test y ≡ true)) x xs both.0 (none_of test xs both.1)

of_none : {X : Type 0} (test : X → Bool) (xs : List X) → All (λ x. ¬ (test x ≡ true)) xs
    → ¬ (list_any test xs ≡ true)
of_none test [] h = λ e. cc
of_none test (x ∷ xs) h =
    none_first (test x) (list_any test xs) (All-head (λ y. ¬ (test y ≡ true)) x xs h)
    (of_none test xs (All-tail (λ y. ¬ (test y ≡ true)) x xs h))

pub none-decides : {X : Type 0} (test : X → Bool) (P : X → Type 0) (xs : List X)
    → ((x : X) → Decides (test x) (P x))
    → Decides (not (list_any test xs)) (All (λ x. ¬ P x) xs)
none-decides test P xs d = (
  λ e k x within p. none_of test xs (not_false (list_any test xs) e) k x within ((d (get_or xs k x)).1 p),
  λ h. false_not (list_any test xs) (of_none test xs (λ k x within t. h k x within ((d (get_or xs k x)).0 t))),
)

-- ---- pairs

pairs_nil : {X : Type 0} (R : X → X → Type 0) → AllPairs R []
pairs_nil R i j d before within = absurd (omega arith)

pairs_first : {X : Type 0} (R : X → X → Type 0) (x : X) (xs : List X) → AllPairs R (x ∷ xs) → All (R x) xs
pairs_first R x xs h j d within = h 0 (suc j) d (omega arith) (omega arith)

pairs_rest : {X : Type 0} (R : X → X → Type 0) (x : X) (xs : List X) → AllPairs R (x ∷ xs) → AllPairs R xs
pairs_rest R x xs h i j d before within = h (suc i) (suc j) d (omega arith) (omega arith)

pairs_sound : {X : Type 0} (test : X → X → Bool) (R : X → X → Type 0) (xs : List X)
    → ((x y : X) → Decides (test x y) (R x y)) → each_pair test xs ≡ true → AllPairs R xs
pairs_sound test R [] d e = pairs_nil R
pairs_sound test R (x ∷ xs) d e =
    let both = and_parts (list_all (test x) xs) (each_pair test xs) e in
    AllPairs-cons R x xs ((all-decides (test x) (R x) xs (d x)).0 both.0) (pairs_sound test R xs d both.1)

pairs_whole : {X : Type 0} (test : X → X → Bool) (R : X → X → Type 0) (xs : List X)
    → ((x y : X) → Decides (test x y) (R x y)) → AllPairs R xs → each_pair test xs ≡ true
pairs_whole test R [] d h = refl
pairs_whole test R (x ∷ xs) d h =
    both_true ((all-decides (test x) (R x) xs (d x)).1 (pairs_first R x xs h))
    (pairs_whole test R xs d (pairs_rest R x xs h))

pub pairs-decides : {X : Type 0} (test : X → X → Bool) (R : X → X → Type 0) (xs : List X)
    → ((x y : X) → Decides (test x y) (R x y)) → Decides (each_pair test xs) (AllPairs R xs)
pairs-decides test R xs d = (pairs_sound test R xs d, pairs_whole test R xs d)

-- ---- items by their places

pub all-at : {X : Type 0} (P : X → Type 0) (xs : List X) (k : ℕ) (x : X) → All P xs → slice_get xs k ≡ Some x
    → P x
all-at P [] k x h e = cc
all-at P (y ∷ ys) zero x h e = let same : y ≡ x = cc in subst P same (All-head P y ys h)
all-at P (y ∷ ys) (suc k) x h e = all-at P ys k x (All-tail P y ys h) e

pub all-made : {X : Type 0} (P : X → Type 0) (xs : List X)
    → ((k : ℕ) (x : X) → slice_get xs k ≡ Some x → P x)
    → All P xs
all-made P [] h = All-nil P
all-made P (x ∷ xs) h = All-cons P x xs (h 0 x refl) (all-made P xs (λ k y e. h (suc k) y e))

each_from_sound : {X : Type 0} (n : ℕ) (check : ℕ → X → Requirement) (P : X → Type 0) (xs : List X)
    → ((m : ℕ) (x : X) → (check m x).Holds → P x) → (each_from n check xs).Holds → All P xs
each_from_sound n check P [] f h = All-nil P
each_from_sound n check P (x ∷ xs) f h = All-cons P x xs (f n x h.0) (each_from_sound (n + 1) check P xs f h.1)

each_from_whole : {X : Type 0} (n : ℕ) (check : ℕ → X → Requirement) (P : X → Type 0) (xs : List X)
    → ((m : ℕ) (x : X) → P x → (check m x).Holds) → All P xs → (each_from n check xs).Holds
each_from_whole n check P [] f h = tt
each_from_whole n check P (x ∷ xs) f h =
    (f n x (All-head P x xs h), each_from_whole (n + 1) check P xs f (All-tail P x xs h))

-- If the requirement of each item gives a fact, the requirement of all gives the fact for all.
pub each-sound : {X : Type 0} (check : ℕ → X → Requirement) (P : X → Type 0) (xs : List X)
    → ((m : ℕ) (x : X) → (check m x).Holds → P x) → (each check xs).Holds → All P xs
each-sound check P xs f h = each_from_sound 0 check P xs f h

pub each-whole : {X : Type 0} (check : ℕ → X → Requirement) (P : X → Type 0) (xs : List X)
    → ((m : ℕ) (x : X) → P x → (check m x).Holds) → All P xs → (each check xs).Holds
each-whole check P xs f h = each_from_whole 0 check P xs f h

holds_from-at : {X : Type 0} (n : ℕ) (check : ℕ → X → Requirement) (xs : List X) (k : ℕ) (x : X)
    → (each_from n check xs).Holds → slice_get xs k ≡ Some x → (check (n + k) x).Holds
holds_from-at n check [] k x h e = cc
holds_from-at n check (y ∷ ys) zero x h e =
    let first : n ≡ n + 0 = omega arith in
    let same : y ≡ x = cc in
    subst (λ m. (check m x).Holds) first (subst (λ z. (check n z).Holds) same h.0)
holds_from-at n check (y ∷ ys) (suc k) x h e =
    let next : n + 1 + k ≡ n + suc k = omega arith in
    subst (λ m. (check m x).Holds) next (holds_from-at (n + 1) check ys k x h.1 e)

-- If the requirement of all items holds, that of the item at a place does.
pub holds-at : {X : Type 0} (check : ℕ → X → Requirement) (xs : List X) (k : ℕ) (x : X) → (each check xs).Holds
    → slice_get xs k ≡ Some x → (check k x).Holds
holds-at check xs k x h e =
    let none : 0 + k ≡ k = omega arith in
    subst (λ m. (check m x).Holds) none (holds_from-at 0 check xs k x h e)

holds_from-made : {X : Type 0} (n : ℕ) (check : ℕ → X → Requirement) (xs : List X)
    → ((k : ℕ) (x : X) → slice_get xs k ≡ Some x → (check (n + k) x).Holds) → (each_from n check xs).Holds
holds_from-made n check [] h = tt
holds_from-made n check (x ∷ xs) h =
    let first : n + 0 ≡ n = omega arith in (
      subst (λ m. (check m x).Holds) first (h 0 x refl),
      holds_from-made (n + 1) check xs (λ k y e. let next : n + suc k ≡ n + 1 + k = omega arith in
          subst (λ m. (check m y).Holds) next (h (suc k) y e)),
    )

-- If the requirement of the item at each place holds, the requirement of all items holds.
pub holds-made : {X : Type 0} (check : ℕ → X → Requirement) (xs : List X)
    → ((k : ℕ) (x : X) → slice_get xs k ≡ Some x → (check k x).Holds) → (each check xs).Holds
holds-made check xs h =
    holds_from-made 0 check xs (λ k x e. let same : k ≡ 0 + k = omega arith in
    subst (λ m. (check m x).Holds) same (h k x e))
