-- Notes whose steps ascend, and the first of them from a step on.
use Rattle.std.proofs.Common.{◌≡◌, ℕ, zero, suc, ◌+◌, ◌<◌, ◌≤◌, Bool, true, false, cond, nat_eq, nat_lt, List, [], ◌∷◌, length, get_or, Option, Some, None, slice_get, refl, sym, ap, ◌∙◌, subst, arith}
use Rattle.std.specs.Prelude.{IsSome, IfSome, IfOk, OnOk, Result, Ok, Err, leb, ltb}
use Rattle.std.specs.List.Sorted.{IsNonDecreasingBy}
use Rattle.std.proofs.lemmas.Bool.Decides.{nat_tests}
use Rattle.hip_ledger.specs.declared.pending.FlushNote.{FlushNote}
use Rattle.hip_ledger.specs.declared.pending.StoreNote.{StoreNote}
use Rattle.hip_ledger.specs.Pending.{first_after, FlushesAscend, note_of, StoresAscend}

abbrev pub stored_at : StoreNote → ℕ
stored_at x = x.tag

abbrev pub flushed_at : FlushNote → ℕ
flushed_at f = f.step

-- ---- what ascends does not fall

low_store : (a b : ℕ) (xs : List StoreNote) → StoresAscend a b xs → (k : ℕ) (d : StoreNote) → k < length xs → a ≤ stored_at (get_or xs k d)
low_store a b [] h k d lt = absurd (omega (arith, lt))
low_store a b (x ∷ xs) h zero d lt = h.0
low_store a b (x ∷ xs) h (suc k) d lt = let r = low_store (x.tag + 1) b xs h.2 k d (omega (arith, lt)) in let q = h.0 in omega (arith, r, q)

pub stores_rise : (a b : ℕ) (xs : List StoreNote) → StoresAscend a b xs → IsNonDecreasingBy stored_at xs
stores_rise a b [] h i j d le lt = absurd (omega (arith, lt))
stores_rise a b (x ∷ xs) h zero zero d le lt = omega arith
stores_rise a b (x ∷ xs) h zero (suc j) d le lt = let r = low_store (x.tag + 1) b xs h.2 j d (omega (arith, lt)) in omega (arith, r)
stores_rise a b (x ∷ xs) h (suc i) zero d le lt = absurd (omega (arith, le))
stores_rise a b (x ∷ xs) h (suc i) (suc j) d le lt = stores_rise (x.tag + 1) b xs h.2 i j d (omega (arith, le)) (omega (arith, lt))

low_flush : (a b : ℕ) (xs : List FlushNote) → FlushesAscend a b xs → (k : ℕ) (d : FlushNote) → k < length xs → a ≤ flushed_at (get_or xs k d)
low_flush a b [] h k d lt = absurd (omega (arith, lt))
low_flush a b (x ∷ xs) h zero d lt = h.0
low_flush a b (x ∷ xs) h (suc k) d lt = let r = low_flush (x.step + 1) b xs h.2 k d (omega (arith, lt)) in let q = h.0 in omega (arith, r, q)

pub flushes_rise : (a b : ℕ) (xs : List FlushNote) → FlushesAscend a b xs → IsNonDecreasingBy flushed_at xs
flushes_rise a b [] h i j d le lt = absurd (omega (arith, lt))
flushes_rise a b (x ∷ xs) h zero zero d le lt = omega arith
flushes_rise a b (x ∷ xs) h zero (suc j) d le lt = let r = low_flush (x.step + 1) b xs h.2 j d (omega (arith, lt)) in omega (arith, r)
flushes_rise a b (x ∷ xs) h (suc i) zero d le lt = absurd (omega (arith, le))
flushes_rise a b (x ∷ xs) h (suc i) (suc j) d le lt = flushes_rise (x.step + 1) b xs h.2 i j d (omega (arith, le)) (omega (arith, lt))

-- ---- the note of a step

none_above : (a b tag : ℕ) (xs : List StoreNote) → StoresAscend a b xs → tag < a → note_of xs tag ≡ None
none_above a b tag [] h lt = refl
none_above a b tag (x ∷ xs) h lt = go (none_above (x.tag + 1) b tag xs h.2 (let r = h.0 in omega (arith, r, lt))) (nat_eq x.tag tag) refl
  where
    go : note_of xs tag ≡ None → (t : Bool) → nat_eq x.tag tag ≡ t → cond t (Some x) (note_of xs tag) ≡ None
    go rest true e = absurd (let q : x.tag ≡ tag = grind (arith, nat_tests) in let r = h.0 in omega (arith, q, r, lt))
    go rest false e = rest

-- The first note whose step is not below the one that is looked for.
pub data IsPlaced (xs : List StoreNote) (tag : ℕ) (o : Option StoreNote) : Type 0 where
  here : (x : StoreNote) → o ≡ Some x → x.tag ≡ tag → note_of xs tag ≡ Some x → IsPlaced xs tag o
  beside : (x : StoreNote) → o ≡ Some x → (x.tag ≡ tag → ⊥) → note_of xs tag ≡ None → IsPlaced xs tag o
  past : o ≡ None → note_of xs tag ≡ None → IsPlaced xs tag o

pub placed : (a b tag : ℕ) (xs : List StoreNote) (i : ℕ) → StoresAscend a b xs
    → ((k : ℕ) (d : StoreNote) → k < i → k < length xs → ltb (stored_at (get_or xs k d)) tag ≡ true)
    → ((k : ℕ) (d : StoreNote) → i ≤ k → k < length xs → ltb (stored_at (get_or xs k d)) tag ≡ false)
    → IsPlaced xs tag (slice_get xs i)
placed a b tag [] i h low high = past refl refl
placed a b tag (x ∷ xs) zero h low high = go (nat_eq x.tag tag) refl
  where
    least : tag ≤ x.tag
    least = let e = high 0 x (omega arith) (omega arith) in grind (arith, nat_tests)

    go : (t : Bool) → nat_eq x.tag tag ≡ t → IsPlaced (x ∷ xs) tag (Some x)
    go true e = here x refl (grind (arith, nat_tests)) (ap (λ t. cond t (Some x) (note_of xs tag)) e)
    go false e = beside x refl (λ q. let z : nat_eq x.tag tag ≡ true = grind (arith, nat_tests) in let w : ⊥ = cc in w) (ap (λ t. cond t (Some x) (note_of xs tag)) e ∙ none_above (x.tag + 1) b tag xs h.2 (omega (arith, least)))
placed a b tag (x ∷ xs) (suc i) h low high = go (placed (x.tag + 1) b tag xs i h.2 (λ k d lt within. low (suc k) d (omega (arith, lt)) (omega (arith, within))) (λ k d le within. high (suc k) d (omega (arith, le)) (omega (arith, within))))
  where
    other : nat_eq x.tag tag ≡ false
    other = let e = low 0 x (omega arith) (omega arith) in grind (arith, nat_tests)

    skip : note_of (x ∷ xs) tag ≡ note_of xs tag
    skip = ap (λ t. cond t (Some x) (note_of xs tag)) other

    go : IsPlaced xs tag (slice_get xs i) → IsPlaced (x ∷ xs) tag (slice_get xs i)
    go (here y e q n) = here y e q (skip ∙ n)
    go (beside y e q n) = beside y e q (skip ∙ n)
    go (past e n) = past e (skip ∙ n)

-- ---- the first flush after a step

pub first_placed : (step : ℕ) (xs : List FlushNote) (i : ℕ)
    → ((k : ℕ) (d : FlushNote) → k < i → k < length xs → leb (flushed_at (get_or xs k d)) step ≡ true)
    → ((k : ℕ) (d : FlushNote) → i ≤ k → k < length xs → leb (flushed_at (get_or xs k d)) step ≡ false)
    → slice_get xs i ≡ first_after step xs
first_placed step [] i low high = refl
first_placed step (x ∷ xs) zero low high = ap (λ t. cond t (Some x) (first_after step xs)) (sym after)
  where
    after : nat_lt step x.step ≡ true
    after = let e = high 0 x (omega arith) (omega arith) in grind (arith, nat_tests)
first_placed step (x ∷ xs) (suc i) low high = first_placed step xs i (λ k d lt within. low (suc k) d (omega (arith, lt)) (omega (arith, within))) (λ k d le within. high (suc k) d (omega (arith, le)) (omega (arith, within))) ∙ ap (λ t. cond t (Some x) (first_after step xs)) (sym before)
  where
    before : nat_lt step x.step ≡ false
    before = let e = low 0 x (omega arith) (omega arith) in grind (arith, nat_tests)

-- ---- what a note at the place gives

abbrev none_of : (A : Type 0) → Option A
none_of A = None

-- The item at a place, from what `get` gives.
pub got : {A : Type 0} (xs : List A) (k : ℕ) (x : A) → k < length xs → x ≡ get_or xs k x → slice_get xs k ≡ Some x
got [] k x lt e = absurd (omega (arith, lt))
got (y ∷ xs) zero x lt e = ap Some (sym e)
got (y ∷ xs) (suc k) x lt e = got xs k x (omega (arith, lt)) e

pub got_none : {A : Type 0} (xs : List A) (k : ℕ) → length xs ≤ k → slice_get xs k ≡ None
got_none [] k le = refl
got_none (y ∷ xs) zero le = absurd (omega (arith, le))
got_none (y ∷ xs) (suc k) le = got_none xs k (omega (arith, le))

pub if_some : {A : Type 0} (Q R : A → Type 0) (o : Option A) → IfSome o Q → ((x : A) → Q x → R x) → IfSome o R
if_some Q R None h f = h
if_some Q R (Some x) h f = f x h

one_some : {A : Type 0} (x y : A) → Some x ≡ Some y → x ≡ y
one_some x y e = cc

pub found_note : (xs : List StoreNote) (tag : ℕ) (o : Option StoreNote) (x : StoreNote) → IsPlaced xs tag o → o ≡ Some x → x.tag ≡ tag
    → note_of xs tag ≡ Some x
found_note xs tag o x (here y e q n) h t = n ∙ sym e ∙ h
found_note xs tag o x (beside y e q n) h t = absurd (q (ap (λ (z : StoreNote). z.tag) (one_some y x (sym e ∙ h)) ∙ t))
found_note xs tag o x (past e n) h t = absurd (let z : ⊥ = cc in z)

pub there_note : (xs : List StoreNote) (tag : ℕ) (o : Option StoreNote) (x : StoreNote) → IsPlaced xs tag o → o ≡ Some x
    → IsSome (note_of xs tag) → x.tag ≡ tag
there_note xs tag o x (here y e q n) h t = ap (λ (z : StoreNote). z.tag) (one_some x y (sym h ∙ e)) ∙ q
there_note xs tag o x (beside y e q n) h t = absurd (let r : IsSome (none_of StoreNote) = subst (λ (z : Option StoreNote). IsSome z) n t in let z : ⊥ = cc in z)
there_note xs tag o x (past e n) h t = absurd (let z : ⊥ = cc in z)

pub none_note : (xs : List StoreNote) (tag : ℕ) (o : Option StoreNote) → IsPlaced xs tag o → o ≡ None
    → IsSome (note_of xs tag) → ⊥
none_note xs tag o (here y e q n) h t = let z : ⊥ = cc in z
none_note xs tag o (beside y e q n) h t = let z : ⊥ = cc in z
none_note xs tag o (past e n) h t = let r : IsSome (none_of StoreNote) = subst (λ (z : Option StoreNote). IsSome z) n t in let z : ⊥ = cc in z

pub if_ok : {A B : Type 0} (Q R : A → Type 0) (r : Result A B) → IfOk r Q → ((x : A) → Q x → R x) → IfOk r R
if_ok Q R (Ok x) h f = f x h
if_ok Q R (Err e) h f = h

pub on_ok : {A B : Type 0} (Q R : Type 0) (r : Result A B) → OnOk r Q → (Q → R) → OnOk r R
on_ok Q R (Ok x) h f = f h
on_ok Q R (Err e) h f = h
