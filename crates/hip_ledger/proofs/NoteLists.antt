-- Notes whose steps ascend, and one more note after them.
use Rattle.std.proofs.Common.{◌≡◌, ℕ, suc, ◌+◌, ◌<◌, ◌≤◌, ◌^◌, Bool, true, false, cond, nat_eq, nat_lt, List, [], ◌∷◌, ◌++◌, Option, Some, None, refl, sym, ap, ap₂, ◌∙◌, filter, arith}
use Rattle.std.proofs.lemmas.Bool.Decides.{nat_tests}
use Rattle.std.specs.List.{flat_map}
use Rattle.hip_tree.specs.declared.program.Program.{Program}
use Rattle.hip_runs.specs.declared.input.Input.{Input}
use Rattle.hip_ledger.specs.Sufficiency.{TellsLoose}
use Rattle.hip_ledger.specs.declared.pending.Pending.{Pending}
use Rattle.hip_ledger.specs.declared.pending.FlushNote.{FlushNote}
use Rattle.hip_ledger.specs.declared.pending.StoreNote.{StoreNote}
use Rattle.hip_ledger.specs.Noted.{flush_among}
use Rattle.hip_ledger.specs.Pending.{StepsAscend, first_after, FlushesAscend, lines_of, note_of, StoresAscend}

-- ---- stores

pub more_stores : (a m n : ℕ) (xs : List StoreNote) → m ≤ n → StoresAscend a m xs → StoresAscend a n xs
more_stores a m n [] le h = tt
more_stores a m n (x ∷ xs) le h = let lt = h.1 in (h.0, omega (arith, lt, le), more_stores (x.tag + 1) m n xs le h.2)

pub one_store_more : (a n : ℕ) (xs : List StoreNote) (x : StoreNote) → a ≤ n → x.tag ≡ n → StoresAscend a n xs → StoresAscend a (suc n) (xs ++ x ∷ [])
one_store_more a n [] x le e h = (omega (arith, le, e), omega (arith, e), tt)
one_store_more a n (y ∷ ys) x le e h = let lt = h.1 in (h.0, omega (arith, lt), one_store_more (y.tag + 1) n ys x (omega (arith, lt)) e h.2)

pub still_there : (xs ys : List StoreNote) (tag : ℕ) (x : StoreNote) → note_of xs tag ≡ Some x → note_of (xs ++ ys) tag ≡ Some x
still_there [] ys tag x e = absurd (let z : ⊥ = cc in z)
still_there (y ∷ xs) ys tag x e = go (λ g. still_there xs ys tag x g) (nat_eq y.tag tag) e
  where
    go : (note_of xs tag ≡ Some x → note_of (xs ++ ys) tag ≡ Some x) → (t : Bool) → cond t (Some y) (note_of xs tag) ≡ Some x → cond t (Some y) (note_of (xs ++ ys) tag) ≡ Some x
    go rest true e = e
    go rest false e = rest e

pub last_there : (a n : ℕ) (xs : List StoreNote) (x : StoreNote) → x.tag ≡ n → StoresAscend a n xs → note_of (xs ++ x ∷ []) n ≡ Some x
last_there a n [] x e h = ap (λ t. cond t (Some x) None) (let q : nat_eq x.tag n ≡ true = grind (arith, nat_tests) in q)
last_there a n (y ∷ ys) x e h =
    let other : nat_eq y.tag n ≡ false = (let lt = h.1 in grind (arith, nat_tests)) in
    ap (λ t. cond t (Some y) (note_of (ys ++ x ∷ []) n)) other ∙ last_there (y.tag + 1) n ys x e h.2

-- A note that is found has the tag, which is below the end.
pub found_below : (a n : ℕ) (xs : List StoreNote) (tag : ℕ) (x : StoreNote) → StoresAscend a n xs → note_of xs tag ≡ Some x → tag < n
found_below a n [] tag x h e = absurd (let z : ⊥ = cc in z)
found_below a n (y ∷ xs) tag x h e = go (λ g. found_below (y.tag + 1) n xs tag x h.2 g) (nat_eq y.tag tag) refl e
  where
    go : (note_of xs tag ≡ Some x → tag < n) → (t : Bool) → nat_eq y.tag tag ≡ t → cond t (Some y) (note_of xs tag) ≡ Some x → tag < n
    go rest true q e = let same : y.tag ≡ tag = grind (arith, nat_tests) in let lt = h.1 in omega (arith, same, lt)
    go rest false q e = rest e

-- ---- some of the stores

from_lower : (a c b : ℕ) (xs : List StoreNote) → a ≤ c → StoresAscend c b xs → StoresAscend a b xs
from_lower a c b [] le h = tt
from_lower a c b (x ∷ xs) le h = let low = h.0 in (omega (arith, le, low), h.1, h.2)

module _ (tags : ℕ → Bool) where
  abbrev pub Some_of : List StoreNote → List StoreNote
  Some_of xs = filter (λ note. tags note.tag) xs

  pub fewer_stores : (a b : ℕ) (xs : List StoreNote) → StoresAscend a b xs → StoresAscend a b (Some_of xs)
  fewer_stores a b [] h = tt
  fewer_stores a b (x ∷ xs) h = go (tags x.tag) (fewer_stores (x.tag + 1) b xs h.2)
    where
      go : (t : Bool) → StoresAscend (x.tag + 1) b (Some_of xs) → StoresAscend a b (cond t (x ∷ Some_of xs) (Some_of xs))
      go true k = (h.0, h.1, k)
      go false k = let low = h.0 in from_lower a (x.tag + 1) b (Some_of xs) (omega (arith, low)) k

  -- The ledger that are kept by their steps still have the note of each kept step.
  pub stays_there : (tag : ℕ) → tags tag ≡ true → (xs : List StoreNote) → note_of (Some_of xs) tag ≡ note_of xs tag
  stays_there tag e [] = refl
  stays_there tag e (x ∷ xs) = go (tags x.tag) refl (nat_eq x.tag tag) refl (stays_there tag e xs)
    where
      go : (t : Bool) → tags x.tag ≡ t → (s : Bool) → nat_eq x.tag tag ≡ s → note_of (Some_of xs) tag ≡ note_of xs tag
          → note_of (cond t (x ∷ Some_of xs) (Some_of xs)) tag ≡ cond s (Some x) (note_of xs tag)
      go true p s q k = ap₂ (λ t r. cond t (Some x) r) q k
      go false p true q k =
          let same : x.tag ≡ tag = grind (arith, nat_tests) in
          absurd (let z : false ≡ true = sym p ∙ ap tags same ∙ e in let w : ⊥ = cc in w)
      go false p false q k = k

-- ---- flushes

pub more_flushes : (a m n : ℕ) (fs : List FlushNote) → m ≤ n → FlushesAscend a m fs → FlushesAscend a n fs
more_flushes a m n [] le h = tt
more_flushes a m n (x ∷ xs) le h = let lt = h.1 in (h.0, omega (arith, lt, le), more_flushes (x.step + 1) m n xs le h.2)

pub one_flush_more : (a n : ℕ) (fs : List FlushNote) (f : FlushNote) → a ≤ n → f.step ≡ n → FlushesAscend a n fs → FlushesAscend a (suc n) (fs ++ f ∷ [])
one_flush_more a n [] x le e h = (omega (arith, le, e), omega (arith, e), tt)
one_flush_more a n (y ∷ ys) x le e h = let lt = h.1 in (h.0, omega (arith, lt), one_flush_more (y.step + 1) n ys x (omega (arith, lt)) e h.2)

pub none_after : (a n : ℕ) (fs : List FlushNote) → FlushesAscend a n fs → first_after n fs ≡ None
none_after a n [] h = refl
none_after a n (f ∷ fs) h =
    let other : nat_lt n f.step ≡ false = (let lt = h.1 in grind (arith, nat_tests)) in
    ap (λ t. cond t (Some f) (first_after n fs)) other ∙ none_after (f.step + 1) n fs h.2

-- The first flush after a step, if a flush is added at the end.
abbrev pub or_last : Option FlushNote → FlushNote → Option FlushNote
or_last None f = Some f
or_last (Some g) f = Some g

pub first_of_more : (step : ℕ) (fs : List FlushNote) (f : FlushNote) → step < f.step → first_after step (fs ++ f ∷ []) ≡ or_last (first_after step fs) f
first_of_more step [] f lt = ap (λ t. cond t (Some f) None) (let q : nat_lt step f.step ≡ true = grind (arith, nat_tests) in q)
first_of_more step (g ∷ fs) f lt = go (first_of_more step fs f lt) (nat_lt step g.step)
  where
    go : first_after step (fs ++ f ∷ []) ≡ or_last (first_after step fs) f → (t : Bool)
        → cond t (Some g) (first_after step (fs ++ f ∷ [])) ≡ or_last (cond t (Some g) (first_after step fs)) f
    go rest true = refl
    go rest false = rest

-- ---- some of the flushes

lower_flushes : (a c b : ℕ) (xs : List FlushNote) → a ≤ c → FlushesAscend c b xs → FlushesAscend a b xs
lower_flushes a c b [] le h = tt
lower_flushes a c b (x ∷ xs) le h = let low = h.0 in (omega (arith, le, low), h.1, h.2)

module _ (steps : ℕ → Bool) where
  abbrev pub Flushes_of : List FlushNote → List FlushNote
  Flushes_of xs = flat_map (flush_among steps) xs

  pub fewer_flushes : (a b : ℕ) (xs : List FlushNote) → FlushesAscend a b xs → FlushesAscend a b (Flushes_of xs)
  fewer_flushes a b [] h = tt
  fewer_flushes a b (x ∷ xs) h = go (steps x.step) (fewer_flushes (x.step + 1) b xs h.2)
    where
      go : (t : Bool) → FlushesAscend (x.step + 1) b (Flushes_of xs) → FlushesAscend a b (cond t (x ∷ []) [] ++ Flushes_of xs)
      go true k = (h.0, h.1, k)
      go false k = let low = h.0 in lower_flushes a (x.step + 1) b (Flushes_of xs) (omega (arith, low)) k

  -- If the first flush after a step is kept, it stays the first one.
  pub first_stays : (tag : ℕ) (xs : List FlushNote) → ((f : FlushNote) → first_after tag xs ≡ Some f → steps f.step ≡ true)
      → first_after tag (Flushes_of xs) ≡ first_after tag xs
  first_stays tag [] h = refl
  first_stays tag (x ∷ xs) h = go (λ k. first_stays tag xs k) (nat_lt tag x.step) refl (steps x.step) refl
    where
      go : (((f : FlushNote) → first_after tag xs ≡ Some f → steps f.step ≡ true) → first_after tag (Flushes_of xs) ≡ first_after tag xs)
          → (s : Bool) → nat_lt tag x.step ≡ s → (t : Bool) → steps x.step ≡ t
          → first_after tag (cond t (x ∷ []) [] ++ Flushes_of xs) ≡ cond s (Some x) (first_after tag xs)
      go rest true q true p = ap (λ s. cond s (Some x) (first_after tag (Flushes_of xs))) q
      go rest true q false p = absurd (let z : steps x.step ≡ true = h x (ap (λ s. cond s (Some x) (first_after tag xs)) q) in let w : false ≡ true = sym p ∙ z in let v : ⊥ = cc in v)
      go rest false q true p = ap (λ s. cond s (Some x) (first_after tag (Flushes_of xs))) q ∙ rest (λ f e. h f (ap (λ s. cond s (Some x) (first_after tag xs)) q ∙ e))
      go rest false q false p = rest (λ f e. h f (ap (λ s. cond s (Some x) (first_after tag xs)) q ∙ e))

-- ---- what is kept of a run

pub in_order : (P : Program) (I : Input) (n header : ℕ) (p : Pending) → n ≤ 2 ^ 128 → TellsLoose P I n header p.stores.items (lines_of p.lines) → StepsAscend p
in_order P I n header p le t = record {
  stores = more_stores 0 n (2 ^ 128) p.stores.items le t.stores;
  flushes = λ j l e. more_flushes 0 n (2 ^ 128) l.flushes le (t.flushes j l e);
}
