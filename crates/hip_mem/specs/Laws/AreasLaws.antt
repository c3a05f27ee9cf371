-- Laws that tie what a `Ram` shows to the memory that it holds.
use Rattle.std.proofs.Common.{◌≡◌, ◌⊎◌, inl, inr, ℕ, zero, suc, ◌+◌, ◌-◌, ◌<◌, ◌≤◌, Bool, true, false, cond, ◌&&◌, ◌||◌, nat_lt, nat_le, List, [], ◌∷◌, ◌++◌, length, take, drop, slice_index, refl, sym, ap, ap₂, ◌∙◌, arith, length-append}
use Rattle.std.proofs.lemmas.Bool.Decides.{nat_tests}
use Rattle.hip_mem.specs.Memory.{Write, write_covers, byte_written, byte_from, is_in, Memory, initial_byte, byte_at, bytes_at, with_write}
use Rattle.hip_types.specs.Areas.{volatile_start, stack_start, stack_end}
use Rattle.hip_types.specs.Bytes.{zeros}
use Rattle.hip_mem.specs.Laws.BytesLaws.{length-zeros, slice_index-zeros}
use Rattle.hip_mem.specs.Areas.{Areas, IsLaidOut, mark_of, is_valid, are_valid, byte_in, bytes_in, area_written, after_write, block_address, after_push, after_pop, Holds}

-- ---- tests

-- An address is in an area or not.
pub in_or_not : (start : ℕ) (xs : List ℕ) (a : ℕ)
    → ((is_in start xs a ≡ true) × (start ≤ a) × (a < start + length xs))
    ⊎ ((is_in start xs a ≡ false) × ((a < start) ⊎ (start + length xs ≤ a)))
in_or_not start xs a = grind (arith, nat_tests)

pub in_area : (start : ℕ) (xs : List ℕ) (a : ℕ) → start ≤ a → a < start + length xs
    → is_in start xs a ≡ true
in_area start xs a h k = grind (arith, nat_tests)

pub not_in_area : (start : ℕ) (xs : List ℕ) (a : ℕ) → (a < start) ⊎ (start + length xs ≤ a)
    → is_in start xs a ≡ false
not_in_area start xs a h = grind (arith, nat_tests)

pub is_in-bounds : (start : ℕ) (xs : List ℕ) (a : ℕ) → is_in start xs a ≡ true → (start ≤ a)
    × (a < start + length xs)
is_in-bounds start xs a h = grind (arith, nat_tests)

-- Two lists of bytes of the same length cover the same addresses.
pub is_in-length : (start : ℕ) (xs ys : List ℕ) (a : ℕ) → length ys ≡ length xs
    → is_in start ys a ≡ is_in start xs a
is_in-length start xs ys a e = ap (λ n. nat_le start a && nat_lt a (start + n)) e

-- ---- a write

pub length-area_written : (w : Write) (start : ℕ) (xs : List ℕ) → length (area_written w start xs) ≡ length xs
length-area_written w start [] = refl
length-area_written w start (x ∷ xs) = ap suc (length-area_written w (suc start) xs)

pub slice_index-area_written : (w : Write) (start : ℕ) (xs : List ℕ) (i : ℕ) → i < length xs
    → slice_index (area_written w start xs) i ≡ byte_written w (start + i) (slice_index xs i)
slice_index-area_written w start [] i h = absurd (omega arith)
slice_index-area_written w start (x ∷ xs) zero h =
    ap (λ a. byte_written w a x) (let e : start ≡ start + 0 = omega arith in e)
slice_index-area_written w start (x ∷ xs) (suc i) h =
    slice_index-area_written w (suc start) xs i (omega arith)
    ∙ ap (λ a. byte_written w a (slice_index xs i)) (let e : suc start + i ≡ start + suc i = omega arith in e)

pub is_valid-after_write : (w : Write) (r : Areas) (a : ℕ) → is_valid (after_write w r) a ≡ is_valid r a
is_valid-after_write w r a =
    ap₂ (λ x y. x || y) (is_in-length volatile_start r.volatile _ a
    (length-area_written w volatile_start r.volatile))
    (ap₂ (λ x y. x || y) (is_in-length stack_start r.stack _ a (length-area_written w stack_start r.stack))
    (is_in-length r.base r.region _ a (length-area_written w r.base r.region)))

-- The byte of an area after a write.
area_byte : (w : Write) (start : ℕ) (xs : List ℕ) (a : ℕ) → start ≤ a → a < start + length xs
    → slice_index (area_written w start xs) (a - start) ≡ byte_written w a (slice_index xs (a - start))
area_byte w start xs a h k =
    slice_index-area_written w start xs (a - start) (omega arith)
    ∙ ap (λ b. byte_written w b (slice_index xs (a - start))) (let e : start + (a - start) ≡ a = omega arith in e)

pub byte_in-after_write : (w : Write) (r : Areas) (a : ℕ) → is_valid r a ≡ true
    → byte_in (after_write w r) a ≡ byte_written w a (byte_in r a)
byte_in-after_write w r a v =
    go (in_or_not volatile_start r.volatile a) (in_or_not stack_start r.stack a) (in_or_not r.base r.region a)
  where
    v' : is_in volatile_start (area_written w volatile_start r.volatile) a ≡ is_in volatile_start r.volatile a
    v' = is_in-length volatile_start r.volatile _ a (length-area_written w volatile_start r.volatile)

    s' : is_in stack_start (area_written w stack_start r.stack) a ≡ is_in stack_start r.stack a
    s' = is_in-length stack_start r.stack _ a (length-area_written w stack_start r.stack)

    go : ((is_in volatile_start r.volatile a ≡ true) × (volatile_start ≤ a)
        × (a < volatile_start + length r.volatile))
        ⊎ ((is_in volatile_start r.volatile a ≡ false)
        × ((a < volatile_start) ⊎ (volatile_start + length r.volatile ≤ a)))
        → ((is_in stack_start r.stack a ≡ true) × (stack_start ≤ a) × (a < stack_start + length r.stack))
        ⊎ ((is_in stack_start r.stack a ≡ false) × ((a < stack_start) ⊎ (stack_start + length r.stack ≤ a)))
        → ((is_in r.base r.region a ≡ true) × (r.base ≤ a) × (a < r.base + length r.region))
        ⊎ ((is_in r.base r.region a ≡ false) × ((a < r.base) ⊎ (r.base + length r.region ≤ a)))
        → byte_in (after_write w r) a ≡ byte_written w a (byte_in r a)
    go (inl x) y z = rw (v', x.0) (area_byte w volatile_start r.volatile a x.1 x.2)
    go (inr x) (inl y) z = rw (v', x.0, s', y.0) (area_byte w stack_start r.stack a y.1 y.2)
    go (inr x) (inr y) (inl z) = rw (v', x.0, s', y.0) (area_byte w r.base r.region a z.1 z.2)
    go (inr x) (inr y) (inr z) =
        absurd (let p = x.0 in let q = y.0 in let s = z.0 in let e : is_valid r a ≡ false = rw (p, q, s) refl in
        let n : ⊥ = cc in n)

-- A write at the end of the list changes the byte that the earlier writes give.
pub byte_from-append : (ws : List Write) (w : Write) (a first : ℕ)
    → byte_from (ws ++ w ∷ []) a first ≡ byte_written w a (byte_from ws a first)
byte_from-append [] w a first = refl
byte_from-append (x ∷ ws) w a first = byte_from-append ws w a (byte_written x a first)

pub byte_at-with_write : (w : Write) (m : Memory) (a : ℕ)
    → byte_at (with_write w m) a ≡ byte_written w a (byte_at m a)
byte_at-with_write w m a = byte_from-append m.writes w a (initial_byte m a)

-- ---- areas that hold a memory hold it after a write, a push and a pop

pub holds-new : (base : ℕ) (volatile region : List ℕ) → volatile_start + length volatile ≤ stack_start
    → stack_end ≤ base → Holds (record { base = base; volatile = volatile; stack = []; region = region })
    (record { base = base; volatile = volatile; region = region; writes = [] })
holds-new base volatile region h k =
    record {
      base = refl;
      volatile = refl;
      region = refl;
      bytes = λ a v. go a v (in_or_not volatile_start volatile a) (in_or_not base region a);
    }
  where
    r : Areas
    r = record { base = base; volatile = volatile; stack = []; region = region }

    none : (a : ℕ) → is_in stack_start [] a ≡ false
    none a = grind (arith, nat_tests)

    go : (a : ℕ) → is_valid (record { base = base; volatile = volatile; stack = []; region = region }) a ≡ true
        → ((is_in volatile_start volatile a ≡ true) × (volatile_start ≤ a)
        × (a < volatile_start + length volatile))
        ⊎ ((is_in volatile_start volatile a ≡ false)
        × ((a < volatile_start) ⊎ (volatile_start + length volatile ≤ a)))
        → ((is_in base region a ≡ true) × (base ≤ a) × (a < base + length region))
        ⊎ ((is_in base region a ≡ false) × ((a < base) ⊎ (base + length region ≤ a)))
        → byte_in (record { base = base; volatile = volatile; stack = []; region = region }) a
        ≡ initial_byte (record { base = base; volatile = volatile; region = region; writes = [] }) a
    go a v (inl x) z = rw x.0 refl
    go a v (inr x) (inl z) = rw (x.0, none a, z.0) refl
    go a v (inr x) (inr z) =
        absurd (let p = x.0 in let q = none a in let s = z.0 in
        let e : is_valid (record { base = base; volatile = volatile; stack = []; region = region }) a ≡ false =
        rw (p, q, s) refl in let n : ⊥ = cc in n)

pub holds-write : (w : Write) (r : Areas) (m : Memory) → Holds r m → Holds (after_write w r) (with_write w m)
holds-write w r m h = record {
  base = h.base;
  volatile = length-area_written w volatile_start r.volatile ∙ h.volatile;
  region = length-area_written w r.base r.region ∙ h.region;
  bytes =
      λ a v. let u : is_valid r a ≡ true = sym (is_valid-after_write w r a) ∙ v in byte_in-after_write w r a u
      ∙ ap (byte_written w a) (h.bytes a u) ∙ sym (byte_at-with_write w m a);
}

pub index-append_left : (xs ys : List ℕ) (i : ℕ) → i < length xs → slice_index (xs ++ ys) i ≡ slice_index xs i
index-append_left [] ys i h = absurd (omega arith)
index-append_left (x ∷ xs) ys zero h = refl
index-append_left (x ∷ xs) ys (suc i) h = index-append_left xs ys i (omega arith)

pub index-append_right : (xs ys : List ℕ) (i : ℕ) → length xs ≤ i
    → slice_index (xs ++ ys) i ≡ slice_index ys (i - length xs)
index-append_right [] ys i h = ap (slice_index ys) (let e : i ≡ i - 0 = omega arith in e)
index-append_right (x ∷ xs) ys zero h = absurd (omega arith)
index-append_right (x ∷ xs) ys (suc i) h =
    index-append_right xs ys i (omega arith) ∙ ap (slice_index ys)
    (let e : i - length xs ≡ suc i - suc (length xs) = omega arith in e)

index-take : (n : ℕ) (xs : List ℕ) (i : ℕ) → i < n → slice_index (take n xs) i ≡ slice_index xs i
index-take zero xs i h = absurd (omega arith)
index-take (suc n) [] i h = refl
index-take (suc n) (x ∷ xs) zero h = refl
index-take (suc n) (x ∷ xs) (suc i) h = index-take n xs i (omega arith)

length-take-le : (n : ℕ) (xs : List ℕ) → n ≤ length xs → length (take n xs) ≡ n
length-take-le zero xs h = refl
length-take-le (suc n) [] h = absurd (omega arith)
length-take-le (suc n) (x ∷ xs) h = ap suc (length-take-le n xs (omega arith))

pub covered_or_not : (w : Write) (a : ℕ)
    → ((write_covers w a ≡ true) × (w.addr ≤ a) × (a < w.addr + length w.bytes))
    ⊎ ((write_covers w a ≡ false) × ((a < w.addr) ⊎ (w.addr + length w.bytes ≤ a)))
covered_or_not w a = grind (arith, nat_tests)

-- A write that does not cover the byte leaves it as it is.
pub not_written : (w : Write) (a old : ℕ) → (a < w.addr) ⊎ (w.addr + length w.bytes ≤ a)
    → byte_written w a old ≡ old
not_written w a old h = go (covered_or_not w a)
  where
    go : ((write_covers w a ≡ true) × (w.addr ≤ a) × (a < w.addr + length w.bytes))
        ⊎ ((write_covers w a ≡ false) × ((a < w.addr) ⊎ (w.addr + length w.bytes ≤ a)))
        → byte_written w a old ≡ old
    go (inl x) = absurd (both h)
      where
        both : (a < w.addr) ⊎ (w.addr + length w.bytes ≤ a) → ⊥
        both (inl l) = omega (arith, l, x.1)
        both (inr l) = omega (arith, l, x.2)
    go (inr x) = ap (λ b. cond b (slice_index w.bytes (a - w.addr)) old) x.0

-- A write of zeros gives zeros.
pub zeros_written : (addr n a old : ℕ) → addr ≤ a → a < addr + n
    → byte_written (record { addr = addr; bytes = zeros n }) a old ≡ 0
zeros_written addr n a old h k = go (covered_or_not (record { addr = addr; bytes = zeros n }) a)
  where
    w : Write
    w = record { addr = addr; bytes = zeros n }

    go : ((write_covers (record { addr = addr; bytes = zeros n }) a ≡ true) × (addr ≤ a)
        × (a < addr + length (zeros n))) ⊎ ((write_covers (record { addr = addr; bytes = zeros n }) a ≡ false)
        × ((a < addr) ⊎ (addr + length (zeros n) ≤ a)))
        → byte_written (record { addr = addr; bytes = zeros n }) a old ≡ 0
    go (inl x) = ap (λ b. cond b (slice_index (zeros n) (a - addr)) old) x.0 ∙ slice_index-zeros n (a - addr)
    go (inr x) = absurd (both x.1)
      where
        both : (a < addr) ⊎ (addr + length (zeros n) ≤ a) → ⊥
        both (inl l) = omega (arith, l, h)
        both (inr l) = omega (arith, l, k, length-zeros n)

-- The write of a new stack block: zeros from the old mark up to the new one.
abbrev pub push_write : ℕ → Areas → Write
push_write mark r = record { addr = mark_of r; bytes = zeros (mark - mark_of r) }

-- The areas do not overlap. The volatile globals come first, then the stack, then the region.
pub record AreasAreApart (r : Areas) : Type 0 where
  pub volatile : volatile_start + length r.volatile ≤ stack_start
  pub stack : mark_of r ≤ stack_end
  pub region : stack_end ≤ r.base

pub laid_out-apart : (r : Areas) → IsLaidOut r → AreasAreApart r
laid_out-apart r h =
    record { volatile = omega (arith, h.volatile); stack = omega (arith, h.stack); region = omega (arith, h.low) }

pub mark_of-after_push : (mark : ℕ) (r : Areas) → mark_of r ≤ mark → mark_of (after_push mark r) ≡ mark
mark_of-after_push mark r h =
    omega (arith, length-append r.stack (zeros (mark - mark_of r)), length-zeros (mark - mark_of r))

pub holds-push : (mark : ℕ) (r : Areas) (m : Memory) → AreasAreApart r → mark_of r ≤ mark → mark ≤ stack_end
    → Holds r m
    → Holds (after_push mark r) (with_write (push_write mark r) m)
holds-push mark r m p low high h = record {
  base = h.base;
  volatile = h.volatile;
  region = h.region;
  bytes =
      λ a v. go a v (in_or_not volatile_start r.volatile a)
      (in_or_not stack_start (r.stack ++ zeros (mark - mark_of r)) a) (in_or_not stack_start r.stack a)
      (in_or_not r.base r.region a) ∙ sym (byte_at-with_write (push_write mark r) m a);
}
  where
    len : length (r.stack ++ zeros (mark - mark_of r)) ≡ mark - stack_start
    len = omega (arith, low, length-append r.stack (zeros (mark - mark_of r)), length-zeros (mark - mark_of r))

    kept : (a : ℕ) → is_valid r a ≡ true → (a < mark_of r) ⊎ (mark ≤ a)
        → byte_in r a ≡ byte_written (push_write mark r) a (byte_at m a)
    kept a u (inl l) = h.bytes a u ∙ sym (not_written (push_write mark r) a (byte_at m a) (inl l))
    kept a u (inr l) =
        h.bytes a u ∙ sym (not_written (push_write mark r) a (byte_at m a)
        (inr (omega (arith, low, l, length-zeros (mark - mark_of r)))))

    go : (a : ℕ) → is_valid (after_push mark r) a ≡ true
        → ((is_in volatile_start r.volatile a ≡ true) × (volatile_start ≤ a)
        × (a < volatile_start + length r.volatile))
        ⊎ ((is_in volatile_start r.volatile a ≡ false)
        × ((a < volatile_start) ⊎ (volatile_start + length r.volatile ≤ a)))
        → ((is_in stack_start (r.stack ++ zeros (mark - mark_of r)) a ≡ true) × (stack_start ≤ a)
        × (a < stack_start + length (r.stack ++ zeros (mark - mark_of r))))
        ⊎ ((is_in stack_start (r.stack ++ zeros (mark - mark_of r)) a ≡ false)
        × ((a < stack_start) ⊎ (stack_start + length (r.stack ++ zeros (mark - mark_of r)) ≤ a)))
        → ((is_in stack_start r.stack a ≡ true) × (stack_start ≤ a) × (a < stack_start + length r.stack))
        ⊎ ((is_in stack_start r.stack a ≡ false) × ((a < stack_start) ⊎ (stack_start + length r.stack ≤ a)))
        → ((is_in r.base r.region a ≡ true) × (r.base ≤ a) × (a < r.base + length r.region))
        ⊎ ((is_in r.base r.region a ≡ false) × ((a < r.base) ⊎ (r.base + length r.region ≤ a)))
        → byte_in (after_push mark r) a ≡ byte_written (push_write mark r) a (byte_at m a)
    go a v (inl x) s o z =
        let u : is_valid r a ≡ true = rw x.0 refl in
        let e : byte_in (after_push mark r) a ≡ byte_in r a = rw x.0 refl in
        e ∙ kept a u (inl (omega (arith, x.2, p.volatile)))
    go a v (inr x) (inl s) (inl o) z =
        let u : is_valid r a ≡ true = rw (x.0, o.0) refl in
        let e : byte_in (after_push mark r) a ≡ byte_in r a =
        rw (x.0, s.0, o.0) (index-append_left r.stack (zeros (mark - mark_of r)) (a - stack_start)
        (omega (arith, o.1, o.2))) in
        e ∙ kept a u (inl (omega (arith, o.2)))
    go a v (inr x) (inl s) (inr o) z = fresh o.1
      where
        fresh : (a < stack_start) ⊎ (stack_start + length r.stack ≤ a)
            → byte_in (after_push mark r) a ≡ byte_written (push_write mark r) a (byte_at m a)
        fresh (inl l) = absurd (omega (arith, l, s.1))
        fresh (inr l) =
            rw (x.0, s.0)
            (index-append_right r.stack (zeros (mark - mark_of r)) (a - stack_start) (omega (arith, l))
            ∙ slice_index-zeros (mark - mark_of r) (a - stack_start - length r.stack)
            ∙ sym (zeros_written (mark_of r) (mark - mark_of r) a (byte_at m a) l (omega (arith, low, s.2, len))))
    go a v (inr x) (inr s) (inl o) z = absurd (out s.1)
      where
        out : (a < stack_start) ⊎ (stack_start + length (r.stack ++ zeros (mark - mark_of r)) ≤ a) → ⊥
        out (inl l) = omega (arith, l, o.1)
        out (inr l) = omega (arith, l, o.2, len, low)
    go a v (inr x) (inr s) (inr o) (inl z) =
        let u : is_valid r a ≡ true = rw (x.0, o.0, z.0) refl in
        let e : byte_in (after_push mark r) a ≡ byte_in r a = rw (x.0, s.0, o.0) refl in
        e ∙ kept a u (inr (omega (arith, z.1, p.region, high)))
    go a v (inr x) (inr s) (inr o) (inr z) =
        absurd (let i = x.0 in let j = s.0 in let k = z.0 in
        let e : is_valid (after_push mark r) a ≡ false = rw (i, j, k) refl in let n : ⊥ = cc in n)

pub holds-pop : (mark : ℕ) (r : Areas) (m : Memory) → AreasAreApart r → stack_start ≤ mark → mark ≤ mark_of r
    → Holds r m
    → Holds (after_pop mark r) m
holds-pop mark r m p low high h = record {
  base = h.base;
  volatile = h.volatile;
  region = h.region;
  bytes =
      λ a v. go a v (in_or_not volatile_start r.volatile a)
      (in_or_not stack_start (take (mark - stack_start) r.stack) a) (in_or_not stack_start r.stack a)
      (in_or_not r.base r.region a);
}
  where
    len : length (take (mark - stack_start) r.stack) ≡ mark - stack_start
    len = length-take-le (mark - stack_start) r.stack (omega (arith, high))

    go : (a : ℕ) → is_valid (after_pop mark r) a ≡ true
        → ((is_in volatile_start r.volatile a ≡ true) × (volatile_start ≤ a)
        × (a < volatile_start + length r.volatile))
        ⊎ ((is_in volatile_start r.volatile a ≡ false)
        × ((a < volatile_start) ⊎ (volatile_start + length r.volatile ≤ a)))
        → ((is_in stack_start (take (mark - stack_start) r.stack) a ≡ true) × (stack_start ≤ a)
        × (a < stack_start + length (take (mark - stack_start) r.stack)))
        ⊎ ((is_in stack_start (take (mark - stack_start) r.stack) a ≡ false)
        × ((a < stack_start) ⊎ (stack_start + length (take (mark - stack_start) r.stack) ≤ a)))
        → ((is_in stack_start r.stack a ≡ true) × (stack_start ≤ a) × (a < stack_start + length r.stack))
        ⊎ ((is_in stack_start r.stack a ≡ false) × ((a < stack_start) ⊎ (stack_start + length r.stack ≤ a)))
        → ((is_in r.base r.region a ≡ true) × (r.base ≤ a) × (a < r.base + length r.region))
        ⊎ ((is_in r.base r.region a ≡ false) × ((a < r.base) ⊎ (r.base + length r.region ≤ a)))
        → byte_in (after_pop mark r) a ≡ byte_at m a
    go a v (inl x) s o z =
        let u : is_valid r a ≡ true = rw x.0 refl in
        let e : byte_in (after_pop mark r) a ≡ byte_in r a = rw x.0 refl in
        e ∙ h.bytes a u
    go a v (inr x) (inl s) (inl o) z =
        let u : is_valid r a ≡ true = rw (x.0, o.0) refl in
        let e : byte_in (after_pop mark r) a ≡ byte_in r a =
        rw (x.0, s.0, o.0) (index-take (mark - stack_start) r.stack (a - stack_start)
        (omega (arith, s.1, s.2, len))) in
        e ∙ h.bytes a u
    go a v (inr x) (inl s) (inr o) z = absurd (out o.1)
      where
        out : (a < stack_start) ⊎ (stack_start + length r.stack ≤ a) → ⊥
        out (inl l) = omega (arith, l, s.1)
        out (inr l) = omega (arith, l, s.2, len, high)
    go a v (inr x) (inr s) (inl o) (inl z) = absurd (omega (arith, o.2, z.1, p.stack, p.region))
    go a v (inr x) (inr s) (inr o) (inl z) =
        let u : is_valid r a ≡ true = rw (x.0, o.0, z.0) refl in
        let e : byte_in (after_pop mark r) a ≡ byte_in r a = rw (x.0, s.0, o.0) refl in
        e ∙ h.bytes a u
    go a v (inr x) (inr s) o (inr z) =
        absurd (let i = x.0 in let j = s.0 in let k = z.0 in
        let e : is_valid (after_pop mark r) a ≡ false = rw (i, j, k) refl in let n : ⊥ = cc in n)

-- ---- ranges of valid bytes

both_true : (b c : Bool) → (b && c) ≡ true → (b ≡ true) × (c ≡ true)
both_true true true e = (refl, refl)
both_true true false e = absurd (let n : ⊥ = cc in n)
both_true false c e = absurd (let n : ⊥ = cc in n)

pub are_valid-at : (r : Areas) (a n k : ℕ) → are_valid r a n ≡ true → k < n → is_valid r (a + k) ≡ true
are_valid-at r a zero k e h = absurd (omega arith)
are_valid-at r a (suc n) zero e h =
    ap (is_valid r) (let z : a + 0 ≡ a = omega arith in z) ∙ (both_true (is_valid r a) (are_valid r (suc a) n) e).0
are_valid-at r a (suc n) (suc k) e h =
    ap (is_valid r) (let z : a + suc k ≡ suc a + k = omega arith in z)
    ∙ are_valid-at r (suc a) n k (both_true (is_valid r a) (are_valid r (suc a) n) e).1 (omega arith)

pub are_valid-from_each : (r : Areas) (n a : ℕ) → ((k : ℕ) → k < n → is_valid r (a + k) ≡ true)
    → are_valid r a n ≡ true
are_valid-from_each r zero a h = refl
are_valid-from_each r (suc n) a h =
    let e : is_valid r a ≡ true = ap (is_valid r) (let z : a ≡ a + 0 = omega arith in z) ∙ h 0 (omega arith) in
    let f : are_valid r (suc a) n ≡ true =
    are_valid-from_each r n (suc a) (λ k lt. ap (is_valid r) (let z : suc a + k ≡ a + suc k = omega arith in z)
    ∙ h (suc k) (omega arith)) in
    rw (e, f) refl

pub are_valid-after_write : (w : Write) (r : Areas) (a n : ℕ) → are_valid (after_write w r) a n ≡ are_valid r a n
are_valid-after_write w r a zero = refl
are_valid-after_write w r a (suc n) =
    ap₂ (λ b c. b && c) (is_valid-after_write w r a) (are_valid-after_write w r (suc a) n)

-- If the areas hold a memory, their valid bytes are the memory's.
pub bytes_in-bytes_at : (r : Areas) (m : Memory) (n a : ℕ) → Holds r m → are_valid r a n ≡ true
    → bytes_in r a n ≡ bytes_at m a n
bytes_in-bytes_at r m zero a h e = refl
bytes_in-bytes_at r m (suc n) a h e =
    let b = both_true (is_valid r a) (are_valid r (suc a) n) e in
    ap₂ (λ x xs. x ∷ xs) (h.bytes a b.0) (bytes_in-bytes_at r m n (suc a) h b.1)

-- A read gives what was written.
bytes_in-written : (w : Write) (r : Areas) (n k : ℕ) → are_valid r (w.addr + k) n ≡ true
    → k + n ≡ length w.bytes
    → bytes_in (after_write w r) (w.addr + k) n ≡ drop k w.bytes
bytes_in-written w r zero k e h = sym (drop-all k w.bytes (omega arith))
  where
    drop-all : (k : ℕ) (xs : List ℕ) → length xs ≤ k → drop k xs ≡ []
    drop-all zero [] h = refl
    drop-all zero (x ∷ xs) h = absurd (omega arith)
    drop-all (suc k) [] h = refl
    drop-all (suc k) (x ∷ xs) h = drop-all k xs (omega arith)
bytes_in-written w r (suc n) k e h =
    let b = both_true (is_valid r (w.addr + k)) (are_valid r (suc (w.addr + k)) n) e in
    let z : suc (w.addr + k) ≡ w.addr + suc k = omega arith in
    ap₂ (λ x xs. x ∷ xs)
    (byte_in-after_write w r (w.addr + k) b.0 ∙ over (covered_or_not w (w.addr + k))
    ∙ ap (slice_index w.bytes) (let y : w.addr + k - w.addr ≡ k = omega arith in y))
    (ap (λ a. bytes_in (after_write w r) a n) z
    ∙ bytes_in-written w r n (suc k) (ap (λ a. are_valid r a n) (sym z) ∙ b.1) (omega arith))
    ∙ sym (drop-first k w.bytes (omega arith))
  where
    drop-first : (k : ℕ) (xs : List ℕ) → k < length xs → drop k xs ≡ slice_index xs k ∷ drop (suc k) xs
    drop-first k [] h = absurd (omega arith)
    drop-first zero (x ∷ xs) h = refl
    drop-first (suc k) (x ∷ xs) h = drop-first k xs (omega arith)

    over : ((write_covers w (w.addr + k) ≡ true) × (w.addr ≤ w.addr + k) × (w.addr + k < w.addr + length w.bytes))
        ⊎ ((write_covers w (w.addr + k) ≡ false)
        × ((w.addr + k < w.addr) ⊎ (w.addr + length w.bytes ≤ w.addr + k)))
        → byte_written w (w.addr + k) (byte_in r (w.addr + k)) ≡ slice_index w.bytes (w.addr + k - w.addr)
    over (inl x) = ap (λ b. cond b (slice_index w.bytes (w.addr + k - w.addr)) (byte_in r (w.addr + k))) x.0
    over (inr x) = absurd (out x.1)
      where
        out : (w.addr + k < w.addr) ⊎ (w.addr + length w.bytes ≤ w.addr + k) → ⊥
        out (inl l) = omega (arith, l)
        out (inr l) = omega (arith, l, h)

pub bytes_in-after_write : (w : Write) (r : Areas) → are_valid r w.addr (length w.bytes) ≡ true
    → bytes_in (after_write w r) w.addr (length w.bytes) ≡ w.bytes
bytes_in-after_write w r e =
    let z : w.addr + 0 ≡ w.addr = omega arith in
    ap (λ a. bytes_in (after_write w r) a (length w.bytes)) (sym z)
    ∙ bytes_in-written w r (length w.bytes) 0 (ap (λ a. are_valid r a (length w.bytes)) z ∙ e) (omega arith)

-- ---- in a `Ram`, whose areas do not touch, consecutive valid bytes lie in one area

-- The n bytes from a on lie in an area.
abbrev pub Fits : ℕ → List ℕ → ℕ → ℕ → Type 0
Fits start xs a n = (start ≤ a) × (a + n ≤ start + length xs)

-- The n bytes from a on lie in one of the three areas.
abbrev pub FitsOne : Areas → ℕ → ℕ → Type 0
FitsOne r a n = Fits volatile_start r.volatile a n ⊎ (Fits stack_start r.stack a n ⊎ Fits r.base r.region a n)

pub valid-where : (r : Areas) (a : ℕ) → is_valid r a ≡ true → FitsOne r a 1
valid-where r a e = go (in_or_not volatile_start r.volatile a) (in_or_not stack_start r.stack a)
    (in_or_not r.base r.region a)
  where
    go : ((is_in volatile_start r.volatile a ≡ true) × (volatile_start ≤ a)
        × (a < volatile_start + length r.volatile))
        ⊎ ((is_in volatile_start r.volatile a ≡ false)
        × ((a < volatile_start) ⊎ (volatile_start + length r.volatile ≤ a)))
        → ((is_in stack_start r.stack a ≡ true) × (stack_start ≤ a) × (a < stack_start + length r.stack))
        ⊎ ((is_in stack_start r.stack a ≡ false) × ((a < stack_start) ⊎ (stack_start + length r.stack ≤ a)))
        → ((is_in r.base r.region a ≡ true) × (r.base ≤ a) × (a < r.base + length r.region))
        ⊎ ((is_in r.base r.region a ≡ false) × ((a < r.base) ⊎ (r.base + length r.region ≤ a)))
        → FitsOne r a 1
    go (inl x) y z = inl (x.1, omega (arith, x.2))
    go (inr x) (inl y) z = inr (inl (y.1, omega (arith, y.2)))
    go (inr x) (inr y) (inl z) = inr (inr (z.1, omega (arith, z.2)))
    go (inr x) (inr y) (inr z) =
        absurd (let p = x.0 in let q = y.0 in let s = z.0 in let f : is_valid r a ≡ false = rw (p, q, s) refl in
        let n : ⊥ = cc in n)

pub where-valid : (r : Areas) (a : ℕ) → FitsOne r a 1 → is_valid r a ≡ true
where-valid r a (inl x) = let e = in_area volatile_start r.volatile a x.0 (omega (arith, x.1)) in rw e refl
where-valid r a (inr (inl x)) =
    let e = in_area stack_start r.stack a x.0 (omega (arith, x.1)) in go (is_in volatile_start r.volatile a) e
  where
    go : (b : Bool) → is_in stack_start r.stack a ≡ true
        → (b || (is_in stack_start r.stack a || is_in r.base r.region a)) ≡ true
    go true e = refl
    go false e = rw e refl
where-valid r a (inr (inr x)) =
    let e = in_area r.base r.region a x.0 (omega (arith, x.1)) in
    go (is_in volatile_start r.volatile a) (is_in stack_start r.stack a) e
  where
    go : (b c : Bool) → is_in r.base r.region a ≡ true → (b || (c || is_in r.base r.region a)) ≡ true
    go true c e = refl
    go false true e = refl
    go false false e = e

pub are_valid-fits : (r : Areas) (n a : ℕ) → IsLaidOut r → are_valid r a (suc n) ≡ true → FitsOne r a (suc n)
are_valid-fits r zero a l e = valid-where r a (both_true (is_valid r a) true e).0
are_valid-fits r (suc n) a l e = let b = both_true (is_valid r a) (are_valid r (suc a) (suc n)) e in
    join (valid-where r a b.0) (are_valid-fits r n (suc a) l b.1)
  where
    join : FitsOne r a 1 → FitsOne r (suc a) (suc n) → FitsOne r a (suc (suc n))
    join (inl x) (inl y) = inl (x.0, omega (arith, y.1))
    join (inr (inl x)) (inr (inl y)) = inr (inl (x.0, omega (arith, y.1)))
    join (inr (inr x)) (inr (inr y)) = inr (inr (x.0, omega (arith, y.1)))
    join (inl x) (inr (inl y)) = absurd (omega (arith, x.1, y.0, l.volatile))
    join (inl x) (inr (inr y)) = absurd (omega (arith, x.1, y.0, l.volatile, l.low))
    join (inr (inl x)) (inl y) = absurd (omega (arith, x.0, y.1, l.volatile))
    join (inr (inl x)) (inr (inr y)) = absurd (omega (arith, x.1, y.0, l.stack, l.low))
    join (inr (inr x)) (inl y) = absurd (omega (arith, x.0, y.1, l.volatile, l.low))
    join (inr (inr x)) (inr (inl y)) = absurd (omega (arith, x.0, y.1, l.stack, l.low))

pub fits-are_valid : (r : Areas) (n a : ℕ) → FitsOne r a n → are_valid r a n ≡ true
fits-are_valid r n a f = are_valid-from_each r n a (λ k lt. where-valid r (a + k) (part k lt f))
  where
    part : (k : ℕ) → k < n → FitsOne r a n → FitsOne r (a + k) 1
    part k lt (inl x) = inl (omega (arith, x.0), omega (arith, x.1))
    part k lt (inr (inl x)) = inr (inl (omega (arith, x.0), omega (arith, x.1)))
    part k lt (inr (inr x)) = inr (inr (omega (arith, x.0), omega (arith, x.1)))

-- ---- the mark, and that a `Ram` stays laid out

pub mark_of-after_write : (w : Write) (r : Areas) → mark_of (after_write w r) ≡ mark_of r
mark_of-after_write w r = ap (λ n. stack_start + n) (length-area_written w stack_start r.stack)

pub mark_of-after_pop : (mark : ℕ) (r : Areas) → stack_start ≤ mark → mark ≤ mark_of r
    → mark_of (after_pop mark r) ≡ mark
mark_of-after_pop mark r low high =
    omega (arith, length-take-le (mark - stack_start) r.stack (omega (arith, high)), low)

pub laid_out-after_write : (w : Write) (r : Areas) → IsLaidOut r → IsLaidOut (after_write w r)
laid_out-after_write w r h = record {
  low = h.low;
  high = h.high;
  aligned = h.aligned;
  volatile = omega (arith, h.volatile, length-area_written w volatile_start r.volatile);
  stack = omega (arith, h.stack, length-area_written w stack_start r.stack);
  region = omega (arith, h.region, length-area_written w r.base r.region);
}

pub laid_out-after_push : (mark : ℕ) (r : Areas) → mark_of r ≤ mark → mark ≤ stack_end → IsLaidOut r
    → IsLaidOut (after_push mark r)
laid_out-after_push mark r low high h =
    record {
      low = h.low;
      high = h.high;
      aligned = h.aligned;
      volatile = h.volatile;
      stack = omega (arith, low, high, mark_of-after_push mark r low);
      region = h.region;
    }

pub laid_out-after_pop : (mark : ℕ) (r : Areas) → stack_start ≤ mark → mark ≤ mark_of r → IsLaidOut r
    → IsLaidOut (after_pop mark r)
laid_out-after_pop mark r low high h =
    record {
      low = h.low;
      high = h.high;
      aligned = h.aligned;
      volatile = h.volatile;
      stack = omega (arith, high, h.stack, mark_of-after_pop mark r low high);
      region = h.region;
    }

-- A new block does not lie below the mark.
pub mark-le-block : (r : Areas) (align : ℕ) → mark_of r ≤ block_address r align
mark-le-block r align = omega arith
