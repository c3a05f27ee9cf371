-- The areas of a `Ram`, by its pages.
use Rattle.std.proofs.Common.{◌≡◌, ◌⊎◌, inl, inr, ℕ, zero, suc, ◌+◌, ◌-◌, ◌^◌, ◌<◌, ◌≤◌, true, false, List, [], ◌∷◌, ◌++◌, length, take, slice_index, refl, ap, ap₂, ◌∙◌, arith}
use Rattle.hip_mem.specs.Memory.{Write, byte_written, is_in}
use Rattle.hip_types.specs.Areas.{volatile_start, stack_start}
use Rattle.hip_types.specs.Bytes.{zeros}
use Rattle.hip_mem.specs.Areas.{IsLaidOut, mark_of, byte_in, bytes_in, area_written}
use Rattle.hip_mem.specs.Laws.AreasLaws.{in_or_not, FitsOne}
use Rattle.hip_mem.specs.declared.ram.Ram.TheInside.{Inside}
use Rattle.hip_mem.specs.declared.pages.Pages.{Pages}
use Rattle.hip_mem.specs.Pages.{page_byte, page_bytes}
use Rattle.hip_mem.specs.Rams.{areas_of, IsRam}

pub length-page_bytes : (m : Pages) (start n : ℕ) → length (page_bytes m start n) ≡ n
unfolding page_bytes
length-page_bytes m start zero = refl
length-page_bytes m start (suc n) = ap suc (length-page_bytes m (suc start) n)

pub slice_index-page_bytes : (m : Pages) (start n i : ℕ) → i < n → slice_index (page_bytes m start n) i ≡ page_byte m (start + i)
unfolding page_bytes
slice_index-page_bytes m start zero i h = absurd (omega arith)
slice_index-page_bytes m start (suc n) zero h = ap (page_byte m) (let e : start ≡ start + 0 = omega arith in e)
slice_index-page_bytes m start (suc n) (suc i) h = slice_index-page_bytes m (suc start) n i (omega arith) ∙ ap (page_byte m) (let e : suc start + i ≡ start + suc i = omega arith in e)

pub page_bytes-same : (m m' : Pages) (start n : ℕ) → ((a : ℕ) → start ≤ a → a < start + n → page_byte m' a ≡ page_byte m a) → page_bytes m' start n ≡ page_bytes m start n
unfolding page_bytes
page_bytes-same m m' start zero h = refl
page_bytes-same m m' start (suc n) h = ap₂ (λ x xs. x ∷ xs) (h start (omega arith) (omega arith)) (page_bytes-same m m' (suc start) n (λ a low high. h a (omega arith) (omega arith)))

pub page_bytes-written : (w : Write) (m m' : Pages) → ((a : ℕ) → page_byte m' a ≡ byte_written w a (page_byte m a)) → (start n : ℕ) → page_bytes m' start n ≡ area_written w start (page_bytes m start n)
unfolding page_bytes
page_bytes-written w m m' h start zero = refl
page_bytes-written w m m' h start (suc n) = ap₂ (λ x xs. x ∷ xs) (h start) (page_bytes-written w m m' h (suc start) n)

pub page_bytes-zeros : (m : Pages) (start n : ℕ) → ((a : ℕ) → start ≤ a → a < start + n → page_byte m a ≡ 0) → page_bytes m start n ≡ zeros n
unfolding page_bytes zeros
page_bytes-zeros m start zero h = refl
page_bytes-zeros m start (suc n) h = ap₂ (λ x xs. x ∷ xs) (h start (omega arith) (omega arith)) (page_bytes-zeros m (suc start) n (λ a low high. h a (omega arith) (omega arith)))

pub page_bytes-more : (m : Pages) (start n k : ℕ) → page_bytes m start (n + k) ≡ page_bytes m start n ++ page_bytes m (start + n) k
unfolding page_bytes
page_bytes-more m start zero k = ap₂ (page_bytes m) (let e : start ≡ start + 0 = omega arith in e) (let e : 0 + k ≡ k = omega arith in e)
page_bytes-more m start (suc n) k = ap (page_bytes m start) (let e : suc n + k ≡ suc (n + k) = omega arith in e) ∙ ap (λ xs. page_byte m start ∷ xs) (page_bytes-more m (suc start) n k ∙ ap (λ s. page_bytes m (suc start) n ++ page_bytes m s k) (let e : suc start + n ≡ start + suc n = omega arith in e))

pub page_bytes-take : (m : Pages) (start n k : ℕ) → k ≤ n → take k (page_bytes m start n) ≡ page_bytes m start k
unfolding page_bytes
page_bytes-take m start n zero h = refl
page_bytes-take m start zero (suc k) h = absurd (omega arith)
page_bytes-take m start (suc n) (suc k) h = ap (λ xs. page_byte m start ∷ xs) (page_bytes-take m (suc start) n k (omega arith))

pub page_bytes-is : (m : Pages) (start : ℕ) (xs : List ℕ) → ((i : ℕ) → i < length xs → page_byte m (start + i) ≡ slice_index xs i) → page_bytes m start (length xs) ≡ xs
unfolding page_bytes
page_bytes-is m start [] h = refl
page_bytes-is m start (x ∷ xs) h =
    ap₂ (λ y ys. y ∷ ys) (ap (page_byte m) (let e : start ≡ start + 0 = omega arith in e) ∙ h 0 (omega arith))
    (page_bytes-is m (suc start) xs (λ i lt. ap (page_byte m) (let e : suc start + i ≡ start + suc i = omega arith in e) ∙ h (suc i) (omega arith)))

-- ---- the areas of a `Ram`

pub laid_out : (s : Inside) → IsRam s → IsLaidOut (areas_of s)
laid_out s h = record {
  low = h.low;
  high = h.high;
  aligned = h.aligned;
  volatile = omega (arith, h.volatile, length-page_bytes s.pages volatile_start s.volatile);
  stack = omega (arith, h.end, length-page_bytes s.pages stack_start (s.mark - stack_start));
  region = omega (arith, h.region, length-page_bytes s.pages s.base s.region);
}

pub mark-is : (s : Inside) → IsRam s → mark_of (areas_of s) ≡ s.mark
mark-is s h = omega (arith, h.start, length-page_bytes s.pages stack_start (s.mark - stack_start))

-- Valid bytes are those of the pages.
pub byte_in-pages : (s : Inside) (a : ℕ) → IsRam s → FitsOne (areas_of s) a 1 → byte_in (areas_of s) a ≡ page_byte s.pages a
byte_in-pages s a h f = go f (in_or_not volatile_start (page_bytes s.pages volatile_start s.volatile) a) (in_or_not stack_start (page_bytes s.pages stack_start (s.mark - stack_start)) a)
  where
    at : (start n : ℕ) → start ≤ a → a < start + length (page_bytes s.pages start n) → slice_index (page_bytes s.pages start n) (a - start) ≡ page_byte s.pages a
    at start n low high = slice_index-page_bytes s.pages start n (a - start) (omega (arith, low, high, length-page_bytes s.pages start n)) ∙ ap (page_byte s.pages) (let e : start + (a - start) ≡ a = omega arith in e)

    go : FitsOne (areas_of s) a 1 → ((is_in volatile_start (page_bytes s.pages volatile_start s.volatile) a ≡ true) × (volatile_start ≤ a) × (a < volatile_start + length (page_bytes s.pages volatile_start s.volatile))) ⊎ ((is_in volatile_start (page_bytes s.pages volatile_start s.volatile) a ≡ false) × ((a < volatile_start) ⊎ (volatile_start + length (page_bytes s.pages volatile_start s.volatile) ≤ a))) → ((is_in stack_start (page_bytes s.pages stack_start (s.mark - stack_start)) a ≡ true) × (stack_start ≤ a) × (a < stack_start + length (page_bytes s.pages stack_start (s.mark - stack_start)))) ⊎ ((is_in stack_start (page_bytes s.pages stack_start (s.mark - stack_start)) a ≡ false) × ((a < stack_start) ⊎ (stack_start + length (page_bytes s.pages stack_start (s.mark - stack_start)) ≤ a))) → byte_in (areas_of s) a ≡ page_byte s.pages a
    go f (inl x) y = rw x.0 (at volatile_start s.volatile x.1 x.2)
    go f (inr x) (inl y) = rw (x.0, y.0) (at stack_start (s.mark - stack_start) y.1 y.2)
    go (inr (inr z)) (inr x) (inr y) = rw (x.0, y.0) (at s.base s.region z.0 (omega (arith, z.1)))
    go (inl z) (inr x) (inr y) = absurd (out x.1)
      where
        out : (a < volatile_start) ⊎ (volatile_start + length (page_bytes s.pages volatile_start s.volatile) ≤ a) → ⊥
        out (inl l) = omega (arith, l, z.0)
        out (inr l) = omega (arith, l, z.1)
    go (inr (inl z)) (inr x) (inr y) = absurd (out y.1)
      where
        out : (a < stack_start) ⊎ (stack_start + length (page_bytes s.pages stack_start (s.mark - stack_start)) ≤ a) → ⊥
        out (inl l) = omega (arith, l, z.0)
        out (inr l) = omega (arith, l, z.1)

pub bytes_in-pages : (s : Inside) (n a : ℕ) → IsRam s → FitsOne (areas_of s) a n → bytes_in (areas_of s) a n ≡ page_bytes s.pages a n
unfolding page_bytes
bytes_in-pages s zero a h f = refl
bytes_in-pages s (suc n) a h f = ap₂ (λ x xs. x ∷ xs) (byte_in-pages s a h (first f)) (bytes_in-pages s n (suc a) h (rest f))
  where
    first : FitsOne (areas_of s) a (suc n) → FitsOne (areas_of s) a 1
    first (inl x) = inl (x.0, omega (arith, x.1))
    first (inr (inl x)) = inr (inl (x.0, omega (arith, x.1)))
    first (inr (inr x)) = inr (inr (x.0, omega (arith, x.1)))

    rest : FitsOne (areas_of s) a (suc n) → FitsOne (areas_of s) (suc a) n
    rest (inl x) = inl (omega (arith, x.0), omega (arith, x.1))
    rest (inr (inl x)) = inr (inl (omega (arith, x.0), omega (arith, x.1)))
    rest (inr (inr x)) = inr (inr (omega (arith, x.0), omega (arith, x.1)))

-- A valid address is below 2 ^ 47.
pub fits-below : (s : Inside) (a n : ℕ) → IsRam s → FitsOne (areas_of s) a (suc n) → a < 2 ^ 47
fits-below s a n h (inl x) = omega (arith, x.1, h.volatile, length-page_bytes s.pages volatile_start s.volatile)
fits-below s a n h (inr (inl x)) = omega (arith, x.1, h.end, length-page_bytes s.pages stack_start (s.mark - stack_start))
fits-below s a n h (inr (inr x)) = omega (arith, x.1, h.high, h.region, length-page_bytes s.pages s.base s.region)
