-- Laws of the numbers of names: a name has a number exactly if it is among the names, and the number is the place of
-- its first occurrence.
use Rattle.std.specs.Prelude.{ℕ, zero, suc, ◌+◌, ◌<◌, ◌≡◌, not, nat_lt, Bool, true, false, cond, List, [], ◌∷◌, ◌++◌, length, Option, Some, None, slice_get, option_map}
use Rattle.std.specs.Str.{bytes_eq}
use Rattle.std.proofs.Common.{◌≤◌, ◌⊎◌, refl, sym, ap, ◌∙◌, subst, inl, inr, ⊎_elim, arith, zero-add, suc-add, eq-or-lt_of_le}
use Rattle.std.proofs.lemmas.Bool.Decides.{nat_tests}
use Rattle.std.proofs.lemmas.Option.{same_Some}
use Rattle.std.proofs.lemmas.Slice.Eq.{bytes_eq-Decides}
use Rattle.hip_names.specs.Names.{number_of}

placed : (b : Bool) (p n : ℕ) →
    cond (nat_lt (cond (not b) (1 + p) 0) (suc n)) (Some (cond (not b) (1 + p) 0)) None
    ≡ cond b (Some 0) (option_map suc (cond (nat_lt p n) (Some p) None))
placed true p n = grind (arith, nat_tests)
placed false p n = past (nat_lt p n) (nat_lt (1 + p) (suc n)) (grind (arith, nat_tests))
  where
    past : (b c : Bool) → c ≡ b → cond c (Some (1 + p)) None ≡ option_map suc (cond b (Some p) None)
    past true c e = let one : 1 + p ≡ suc p = omega arith in rw (e, one) refl
    past false c e = rw e refl

-- The first name has number 0, and each other one its number among the rest, plus 1.
pub number_of-cons : (x : List ℕ) (xs : List (List ℕ)) (name : List ℕ)
    → number_of (x ∷ xs) name ≡ cond (bytes_eq name x) (Some 0) (option_map suc (number_of xs name))
number_of-cons x xs name = placed (bytes_eq name x) _ (length xs)

at_first : (b : Bool) (name x : List ℕ) (xs : List (List ℕ)) → bytes_eq name x ≡ b
    → number_of (x ∷ xs) name ≡ cond b (Some 0) (option_map suc (number_of xs name))
at_first b name x xs e = number_of-cons x xs name ∙ ap (λ t. cond t (Some 0) (option_map suc (number_of xs name))) e

-- The name is x, the first of the names, and k is its number, 0.
abbrev pub IsHere : (x name : List ℕ) → ℕ → Type 0
IsHere x name k = (k ≡ 0) × (x ≡ name) × (bytes_eq name x ≡ true)

-- The name is not x, the first of the names, and k is one more than its number among the rest.
abbrev pub IsLater : (x : List ℕ) (xs : List (List ℕ)) (name : List ℕ) → ℕ → Type 0
IsLater x xs name k = (j : ℕ) × (bytes_eq name x ≡ false) × (number_of xs name ≡ Some j) × (k ≡ suc j)

-- The name that has a number is the first one, or it has a number among the rest.
pub number_cases : (x : List ℕ) (xs : List (List ℕ)) (name : List ℕ) (k : ℕ)
    → number_of (x ∷ xs) name ≡ Some k
    → IsHere x name k ⊎ IsLater x xs name k
number_cases x xs name k e = by_first (bytes_eq name x) refl
  where
    past : (o : Option ℕ) → number_of xs name ≡ o → bytes_eq name x ≡ false → option_map suc o ≡ Some k
        → IsHere x name k ⊎ IsLater x xs name k
    past None n t f = cc
    past (Some j) n t f = inr (j, t, n, cc)

    by_first : (b : Bool) → bytes_eq name x ≡ b → IsHere x name k ⊎ IsLater x xs name k
    by_first true t =
        let s : Some 0 ≡ Some k = sym (at_first true name x xs t) ∙ e in
        inl (cc, sym ((bytes_eq-Decides name x).0 t), t)
    by_first false t = past (number_of xs name) refl t (sym (at_first false name x xs t) ∙ e)

number_later : (x : List ℕ) (xs : List (List ℕ)) (name : List ℕ) (k : ℕ) → bytes_eq name x ≡ false
    → number_of xs name ≡ Some k → number_of (x ∷ xs) name ≡ Some (suc k)
number_later x xs name k t e = at_first false name x xs t ∙ ap (option_map suc) e

-- The item at a name's number is that name.
pub number_of-there : (xs : List (List ℕ)) (name : List ℕ) (k : ℕ) → number_of xs name ≡ Some k
    → slice_get xs k ≡ Some name
number_of-there [] name k e = cc
number_of-there (x ∷ xs) name k e =
    ⊎_elim (λ h. subst (λ n. slice_get (x ∷ xs) n ≡ Some name) (sym h.0) (ap Some h.1))
    (λ l. subst (λ n. slice_get (x ∷ xs) n ≡ Some name) (sym l.3) (number_of-there xs name l.0 l.2))
    (number_cases x xs name k e)

-- No earlier item is that name.
pub number_of-least : (xs : List (List ℕ)) (name : List ℕ) (k j : ℕ) → number_of xs name ≡ Some k
    → slice_get xs j ≡ Some name → k ≤ j
number_of-least [] name k j e f = cc
number_of-least (x ∷ xs) name k zero e f =
    ⊎_elim (λ h. omega (arith, h.0)) (λ l. absurd (other (same_Some x name f) l.1)) (number_cases x xs name k e)
  where
    other : x ≡ name → bytes_eq name x ≡ false → ⊥
    other same t = let yes = (bytes_eq-Decides name x).1 (sym same) in cc
number_of-least (x ∷ xs) name k (suc j) e f =
    ⊎_elim (λ h. omega (arith, h.0)) (λ l. let rest = number_of-least xs name l.0 j l.2 f in omega (arith, l.3))
    (number_cases x xs name k e)

-- Names that are added at the end of a list leave the numbers of its names as they are.
pub number_of-front : (xs ys : List (List ℕ)) (name : List ℕ) (k : ℕ) → number_of xs name ≡ Some k
    → number_of (xs ++ ys) name ≡ Some k
number_of-front [] ys name k e = cc
number_of-front (x ∷ xs) ys name k e =
    ⊎_elim (λ h. at_first true name x (xs ++ ys) h.2 ∙ ap Some (sym h.0))
    (λ l. number_later x (xs ++ ys) name l.0 l.1 (number_of-front xs ys name l.0 l.2) ∙ ap Some (sym l.3))
    (number_cases x xs name k e)

-- A name in the list has a number.
pub number_of-known : (xs : List (List ℕ)) (name : List ℕ) (k : ℕ) → slice_get xs k ≡ Some name
    → (j : ℕ) × (number_of xs name ≡ Some j)
number_of-known [] name k e = cc
number_of-known (x ∷ xs) name zero e =
    (0, at_first true name x xs ((bytes_eq-Decides name x).1 (sym (same_Some x name e))))
number_of-known (x ∷ xs) name (suc k) e = by_first (bytes_eq name x) refl (number_of-known xs name k e)
  where
    by_first : (b : Bool) → bytes_eq name x ≡ b → (j : ℕ) × (number_of xs name ≡ Some j) → (j : ℕ)
        × (number_of (x ∷ xs) name ≡ Some j)
    by_first true t rest = (0, at_first true name x xs t)
    by_first false t rest = (suc rest.0, number_later x xs name rest.0 t rest.1)

-- If a place has a name and no earlier place has it, the place is the number of the name.
pub number_of-first : (xs : List (List ℕ)) (name : List ℕ) (k : ℕ) → slice_get xs k ≡ Some name
    → ((j : ℕ) → j < k → ¬ (slice_get xs j ≡ Some name)) → number_of xs name ≡ Some k
number_of-first xs name k e none =
    let found = number_of-known xs name k e in
    let least = number_of-least xs name found.0 k found.1 e in
    let there = number_of-there xs name found.0 found.1 in
    let same : found.0 ≡ k = ⊎_elim (λ s. s) (λ below. absurd (none found.0 below there))
    (eq-or-lt_of_le least) in
    found.1 ∙ ap Some same

-- In two lists one after the other, the number of a name that is not in the first is its number in the second, plus the
-- length of the first.
pub number_of-past : (xs ys : List (List ℕ)) (name : List ℕ) (k : ℕ) → number_of ys name ≡ Some k
    → ((j : ℕ) → ¬ (slice_get xs j ≡ Some name)) → number_of (xs ++ ys) name ≡ Some (length xs + k)
number_of-past [] ys name k e none = e ∙ ap Some (sym (zero-add k))
number_of-past (x ∷ xs) ys name k e none =
    at_first false name x (xs ++ ys) (other (bytes_eq name x) refl)
    ∙ ap (option_map suc) (number_of-past xs ys name k e (λ j f. none (suc j) f))
    ∙ ap Some (sym (suc-add (length xs) k))
  where
    other : (b : Bool) → bytes_eq name x ≡ b → bytes_eq name x ≡ false
    other true t = absurd (none 0 (ap Some (sym ((bytes_eq-Decides name x).0 t))))
    other false t = t

-- A name of the whole list has a number in the first list, or it is in the rest.
pub number_of-append : (xs ys : List (List ℕ)) (name : List ℕ) (k : ℕ) → number_of (xs ++ ys) name ≡ Some k
    → length xs ≤ k ⊎ (number_of xs name ≡ Some k)
number_of-append [] ys name k e = inl (omega arith)
number_of-append (x ∷ xs) ys name k e =
    ⊎_elim (λ h. inr (at_first true name x xs h.2 ∙ ap Some (sym h.0)))
    (λ l. ⊎_elim (λ far. inl (omega (arith, l.3, far)))
    (λ near. inr (number_later x xs name l.0 l.1 near ∙ ap Some (sym l.3))) (number_of-append xs ys name l.0 l.2))
    (number_cases x (xs ++ ys) name k e)

-- ---- functions
