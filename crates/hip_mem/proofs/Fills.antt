-- Writes part by part.
use Rattle.std.proofs.Common.{◌≡◌, ◌⊎◌, inl, inr, ℕ, zero, suc, ◌+◌, ◌-◌, ◌<◌, ◌≤◌, true, false, cond, List, [], ◌∷◌, ◌++◌, length, take, drop, slice_index, slice_range, refl, sym, ap, ◌∙◌, arith, length-append}
use Rattle.std.proofs.lemmas.List.{get_or_past}
use Rattle.hip_mem.specs.Memory.{write_covers, byte_written}
use Rattle.hip_mem.specs.Laws.AreasLaws.{covered_or_not, not_written, index-append_left, index-append_right}
use Rattle.hip_mem.specs.declared.pages.Pages.{Pages}
use Rattle.hip_mem.specs.Pages.{page_byte}

-- A byte that a write covers.
pub written : (addr : ℕ) (xs : List ℕ) (a old : ℕ) → addr ≤ a → a < addr + length xs → byte_written (record { addr = addr; bytes = xs }) a old ≡ slice_index xs (a - addr)
written addr xs a old h k = go (covered_or_not (record { addr = addr; bytes = xs }) a)
  where
    go : ((write_covers (record { addr = addr; bytes = xs }) a ≡ true) × (addr ≤ a) × (a < addr + length xs)) ⊎ ((write_covers (record { addr = addr; bytes = xs }) a ≡ false) × ((a < addr) ⊎ (addr + length xs ≤ a))) → byte_written (record { addr = addr; bytes = xs }) a old ≡ slice_index xs (a - addr)
    go (inl x) = ap (λ b. cond b (slice_index xs (a - addr)) old) x.0
    go (inr x) = absurd (out x.1)
      where
        out : (a < addr) ⊎ (addr + length xs ≤ a) → ⊥
        out (inl l) = omega (arith, l, h)
        out (inr l) = omega (arith, l, k)

-- A write of two lists of bytes is the write of the first and then the write of the second after it.
pub written-append : (addr : ℕ) (xs ys : List ℕ) (a old : ℕ) → byte_written (record { addr = addr; bytes = xs ++ ys }) a old ≡ byte_written (record { addr = addr + length xs; bytes = ys }) a (byte_written (record { addr = addr; bytes = xs }) a old)
written-append addr xs ys a old = go (split a addr) (split a (addr + length xs)) (split a (addr + length xs + length ys))
  where
    split : (m n : ℕ) → (m < n) ⊎ (n ≤ m)
    split m n = grind arith

    len : length (xs ++ ys) ≡ length xs + length ys
    len = length-append xs ys

    go : (a < addr) ⊎ (addr ≤ a) → (a < addr + length xs) ⊎ (addr + length xs ≤ a) → (a < addr + length xs + length ys) ⊎ (addr + length xs + length ys ≤ a) → byte_written (record { addr = addr; bytes = xs ++ ys }) a old ≡ byte_written (record { addr = addr + length xs; bytes = ys }) a (byte_written (record { addr = addr; bytes = xs }) a old)
    go (inl l) y z = not_written (record { addr = addr; bytes = xs ++ ys }) a old (inl l) ∙ sym (not_written (record { addr = addr + length xs; bytes = ys }) a (byte_written (record { addr = addr; bytes = xs }) a old) (inl (omega arith)) ∙ not_written (record { addr = addr; bytes = xs }) a old (inl l))
    go (inr l) (inl m) z = written addr (xs ++ ys) a old l (omega (arith, len)) ∙ index-append_left xs ys (a - addr) (omega (arith, l, m)) ∙ sym (not_written (record { addr = addr + length xs; bytes = ys }) a (byte_written (record { addr = addr; bytes = xs }) a old) (inl m) ∙ written addr xs a old l m)
    go (inr l) (inr m) (inl n) = written addr (xs ++ ys) a old l (omega (arith, len)) ∙ index-append_right xs ys (a - addr) (omega (arith, m)) ∙ ap (slice_index ys) (let e : a - addr - length xs ≡ a - (addr + length xs) = omega arith in e) ∙ sym (written (addr + length xs) ys a (byte_written (record { addr = addr; bytes = xs }) a old) m n)
    go (inr l) (inr m) (inr n) = not_written (record { addr = addr; bytes = xs ++ ys }) a old (inr (omega (arith, len))) ∙ sym (not_written (record { addr = addr + length xs; bytes = ys }) a (byte_written (record { addr = addr; bytes = xs }) a old) (inr n) ∙ not_written (record { addr = addr; bytes = xs }) a old (inr m))

-- A write of zeros over zeros changes no byte.
pub zeros_over_zero : (addr : ℕ) (xs : List ℕ) (a old : ℕ) → ((i : ℕ) → slice_index xs i ≡ 0) → (addr ≤ a → a < addr + length xs → old ≡ 0) → old ≡ byte_written (record { addr = addr; bytes = xs }) a old
zeros_over_zero addr xs a old z h = go (covered_or_not (record { addr = addr; bytes = xs }) a)
  where
    go : ((write_covers (record { addr = addr; bytes = xs }) a ≡ true) × (addr ≤ a) × (a < addr + length xs)) ⊎ ((write_covers (record { addr = addr; bytes = xs }) a ≡ false) × ((a < addr) ⊎ (addr + length xs ≤ a))) → old ≡ byte_written (record { addr = addr; bytes = xs }) a old
    go (inl x) = h x.1 x.2 ∙ sym (z (a - addr)) ∙ ap (λ b. cond b (slice_index xs (a - addr)) old) (sym x.0)
    go (inr x) = ap (λ b. cond b (slice_index xs (a - addr)) old) (sym x.0)

take-range : (i j : ℕ) (xs : List ℕ) → i ≤ j → j ≤ length xs → take i xs ++ take (j - i) (drop i xs) ≡ take j xs
take-range zero j xs h k = ap (λ n. take n xs) (let e : j - 0 ≡ j = omega arith in e)
take-range (suc i) zero xs h k = absurd (omega arith)
take-range (suc i) (suc j) [] h k = absurd (omega arith)
take-range (suc i) (suc j) (x ∷ xs) h k = ap (λ ys. x ∷ ys) (ap (λ n. take i xs ++ take n (drop i xs)) (let e : suc j - suc i ≡ j - i = omega arith in e) ∙ take-range i j xs (omega arith) (omega arith))

length-take-le : (n : ℕ) (xs : List ℕ) → n ≤ length xs → length (take n xs) ≡ n
length-take-le zero xs h = refl
length-take-le (suc n) [] h = absurd (omega arith)
length-take-le (suc n) (x ∷ xs) h = ap suc (length-take-le n xs (omega arith))

-- One more part is written.
pub fill-more : (start i j : ℕ) (xs : List ℕ) (old m m' : Pages) → i ≤ j → j ≤ length xs → ((a : ℕ) → page_byte m a ≡ byte_written (record { addr = start; bytes = take i xs }) a (page_byte old a)) → ((a : ℕ) → page_byte m' a ≡ byte_written (record { addr = start + i; bytes = slice_range xs i j }) a (page_byte m a)) → (a : ℕ) → page_byte m' a ≡ byte_written (record { addr = start; bytes = take j xs }) a (page_byte old a)
fill-more start i j xs old m m' h k f g a =
    g a
    ∙ ap (byte_written (record { addr = start + i; bytes = slice_range xs i j }) a) (f a)
    ∙ ap (λ n. byte_written (record { addr = start + n; bytes = slice_range xs i j }) a (byte_written (record { addr = start; bytes = take i xs }) a (page_byte old a))) (sym (length-take-le i xs (omega arith)))
    ∙ sym (written-append start (take i xs) (slice_range xs i j) a (page_byte old a))
    ∙ ap (λ (ys : List ℕ). byte_written (record { addr = start; bytes = ys }) a (page_byte old a)) (take-range i j xs h k)

-- Beyond what was written there are still zeros.
pub fill-zeros : (start i : ℕ) (xs : List ℕ) (old m : Pages) → i ≤ length xs → ((a : ℕ) → start ≤ a → a < start + length xs → page_byte old a ≡ 0) → ((a : ℕ) → page_byte m a ≡ byte_written (record { addr = start; bytes = take i xs }) a (page_byte old a)) → (a : ℕ) → start + i ≤ a → a < start + length xs → page_byte m a ≡ 0
fill-zeros start i xs old m h z f a low high = f a ∙ not_written (record { addr = start; bytes = take i xs }) a (page_byte old a) (inr (omega (arith, low, length-take-le i xs h))) ∙ z a (omega arith) high

pub fill-all : (start i : ℕ) (xs : List ℕ) (old m : Pages) → i ≤ length xs → length xs ≤ i → ((a : ℕ) → page_byte m a ≡ byte_written (record { addr = start; bytes = take i xs }) a (page_byte old a)) → (a : ℕ) → page_byte m a ≡ byte_written (record { addr = start; bytes = xs }) a (page_byte old a)
fill-all start i xs old m h k f a = f a ∙ ap (λ (ys : List ℕ). byte_written (record { addr = start; bytes = ys }) a (page_byte old a)) (take-all i xs k)
  where
    take-all : (n : ℕ) (ys : List ℕ) → length ys ≤ n → take n ys ≡ ys
    take-all zero [] h = refl
    take-all zero (y ∷ ys) h = absurd (omega arith)
    take-all (suc n) [] h = refl
    take-all (suc n) (y ∷ ys) h = ap (λ zs. y ∷ zs) (take-all n ys (omega arith))

-- A list and zeros after it are written where there are zeros.
pub fill-image : (start : ℕ) (stored image : List ℕ) (old m : Pages) → length stored ≤ length image → ((i : ℕ) → slice_index stored i ≡ slice_index image i)
    → ((a : ℕ) → start ≤ a → a < start + length image → page_byte old a ≡ 0)
    → ((a : ℕ) → page_byte m a ≡ byte_written (record { addr = start; bytes = stored }) a (page_byte old a))
    → (a : ℕ) → page_byte m a ≡ byte_written (record { addr = start; bytes = image }) a (page_byte old a)
fill-image start stored image old m few same z f a = f a ∙ go (split a start) (split a (start + length stored)) (split a (start + length image))
  where
    split : (m n : ℕ) → (m < n) ⊎ (n ≤ m)
    split m n = grind arith

    go : (a < start) ⊎ (start ≤ a) → (a < start + length stored) ⊎ (start + length stored ≤ a) → (a < start + length image) ⊎ (start + length image ≤ a)
        → byte_written (record { addr = start; bytes = stored }) a (page_byte old a) ≡ byte_written (record { addr = start; bytes = image }) a (page_byte old a)
    go (inl l) y w = not_written (record { addr = start; bytes = stored }) a (page_byte old a) (inl l) ∙ sym (not_written (record { addr = start; bytes = image }) a (page_byte old a) (inl l))
    go (inr l) (inl m) w = written start stored a (page_byte old a) l m ∙ same (a - start) ∙ sym (written start image a (page_byte old a) l (omega (arith, m, few)))
    go (inr l) (inr m) (inl n) =
        not_written (record { addr = start; bytes = stored }) a (page_byte old a) (inr m) ∙ z a l n
        ∙ sym (written start image a (page_byte old a) l n ∙ sym (same (a - start)) ∙ get_or_past stored (a - start) 0 (omega (arith, m)))
    go (inr l) (inr m) (inr n) = not_written (record { addr = start; bytes = stored }) a (page_byte old a) (inr m) ∙ sym (not_written (record { addr = start; bytes = image }) a (page_byte old a) (inr n))
