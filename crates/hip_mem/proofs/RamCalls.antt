-- What the calls of a `Ram` do, by its pages.
use Rattle.std.proofs.Common.{◌≡◌, ◌⊎◌, inl, inr, ℕ, zero, suc, ◌+◌, ◌%◌, ◌-◌, ◌^◌, ◌<◌, ◌≤◌, ◌&&◌, Bool, true, false, cond, IsTrue, ◌↔◌, ◌==◌, Option, Some, None, SomeIff, Result, Ok, Err, OnOk, OnErr, nat_le, nat_lt, List, [], ◌∷◌, ◌++◌, length, take, replicate, slice_index, refl, sym, ap, ap₂, ◌∙◌, arith}
use Rattle.std.specs.Int.{next_multiple_of, to_le_bytes, w64}
use Rattle.hip_mem.specs.declared.refusal.MemTrap.{MemTrap}
use Rattle.hip_mem.specs.declared.refusal.MemTrap.TheVariants.{Misaligned, BadAddress}
use Rattle.hip_mem.specs.Memory.{Write, byte_written}
use Rattle.hip_types.specs.Areas.{volatile_start, stack_start, stack_end}
use Rattle.hip_types.specs.Bytes.{bytes_of, little_endian, zeros}
use Rattle.hip_mem.specs.Laws.BytesLaws.{little_endian-take, take-bytes_of, to_le_bytes-bytes_of}
use Rattle.hip_mem.specs.Areas.{Areas, mark_of, are_valid, bytes_in, access_trap, or_trap, loaded, block_address, pushed_mark, after_write, after_push, after_pop}
use Rattle.hip_mem.specs.Laws.AreasLaws.{FitsOne, are_valid-fits, fits-are_valid, not_written}
use Rattle.hip_mem.specs.declared.ram.Ram.TheInside.{Inside}
use Rattle.hip_mem.specs.declared.pages.Pages.{Pages}
use Rattle.hip_mem.specs.Pages.{page_byte, page_bytes}
use Rattle.hip_mem.specs.Rams.{areas_of, IsRam}
use Rattle.hip_mem.proofs.Fills.{written}
use Rattle.hip_mem.proofs.PageKeys.{in_or_out}
use Rattle.hip_mem.proofs.RamAreas.{length-page_bytes, page_bytes-same, page_bytes-written, page_bytes-zeros, page_bytes-more, page_bytes-take, page_bytes-is, laid_out, mark-is, bytes_in-pages, fits-below}

-- ---- valid bytes

abbrev pub Lies : ℕ → ℕ → ℕ → ℕ → Type 0
Lies start len a n = (start ≤ a) × (a + n ≤ start + len)

abbrev pub LiesOne : Inside → ℕ → ℕ → Type 0
LiesOne s a n = Lies volatile_start s.volatile a n ⊎ (Lies stack_start (s.mark - stack_start) a n ⊎ Lies s.base s.region a n)

lies-fits : (s : Inside) (a n : ℕ) → LiesOne s a n → FitsOne (areas_of s) a n
lies-fits s a n (inl x) = inl (x.0, omega (arith, x.1, length-page_bytes s.pages volatile_start s.volatile))
lies-fits s a n (inr (inl x)) = inr (inl (x.0, omega (arith, x.1, length-page_bytes s.pages stack_start (s.mark - stack_start))))
lies-fits s a n (inr (inr x)) = inr (inr (x.0, omega (arith, x.1, length-page_bytes s.pages s.base s.region)))

fits-lies : (s : Inside) (a n : ℕ) → FitsOne (areas_of s) a n → LiesOne s a n
fits-lies s a n (inl x) = inl (x.0, omega (arith, x.1, length-page_bytes s.pages volatile_start s.volatile))
fits-lies s a n (inr (inl x)) = inr (inl (x.0, omega (arith, x.1, length-page_bytes s.pages stack_start (s.mark - stack_start))))
fits-lies s a n (inr (inr x)) = inr (inr (x.0, omega (arith, x.1, length-page_bytes s.pages s.base s.region)))

pub valid-fits : (s : Inside) (a n : ℕ) → IsRam s → 0 < n → are_valid (areas_of s) a n ≡ true → FitsOne (areas_of s) a n
valid-fits s a zero h p e = absurd (omega arith)
valid-fits s a (suc n) h p e = are_valid-fits (areas_of s) n a (laid_out s h) e

pub valid_where : (s : Inside) (r : Areas) (a n : ℕ) → areas_of s ≡ r → LiesOne s a n → true ≡ are_valid r a n
valid_where s r a n e l = sym (ap (λ (q : Areas). are_valid q a n) (sym e) ∙ fits-are_valid (areas_of s) n a (lies-fits s a n l))

pub valid_nowhere : (s : Inside) (r : Areas) (a n : ℕ) → areas_of s ≡ r → IsRam s → 0 < n → (LiesOne s a n → ⊥) → false ≡ are_valid r a n
valid_nowhere s r a n e h p nowhere = go (are_valid r a n) refl
  where
    go : (b : Bool) → are_valid r a n ≡ b → false ≡ b
    go false f = refl
    go true f = absurd (nowhere (fits-lies s a n (valid-fits s a n h p (ap (λ (q : Areas). are_valid q a n) e ∙ f))))

-- If the first two areas do not contain a range, the test of the third area decides whether the range is valid.
pub valid_last : (s : Inside) (r : Areas) (a n : ℕ) (b : Bool) → areas_of s ≡ r → IsRam s → 0 < n → (Lies volatile_start s.volatile a n → ⊥) → (Lies stack_start (s.mark - stack_start) a n → ⊥) → (IsTrue b ↔ Lies s.base s.region a n) → b ≡ are_valid r a n
valid_last s r a n true e h p v k t = valid_where s r a n e (inr (inr (t.0 refl)))
valid_last s r a n false e h p v k t = valid_nowhere s r a n e h p nowhere
  where
    nowhere : LiesOne s a n → ⊥
    nowhere (inl x) = v x
    nowhere (inr (inl x)) = k x
    nowhere (inr (inr x)) = let y = t.1 x in let z : ⊥ = cc in z

-- From the region's start on, only the region has valid bytes.
pub valid_region : (s : Inside) (r : Areas) (a n : ℕ) (b : Bool) → areas_of s ≡ r → IsRam s → 0 < n → s.base ≤ a → (IsTrue b ↔ Lies s.base s.region a n) → b ≡ are_valid r a n
valid_region s r a n b e h p low t =
    valid_last s r a n b e h p (λ l. omega (arith, l.1, p, low, h.low, h.volatile)) (λ l. omega (arith, l.1, p, low, h.low, h.start, h.end)) t

-- ---- numbers

take-page_bytes : (m : Pages) (n a : ℕ) (xs : List ℕ) → n ≤ length xs → ((i : ℕ) → i < n → slice_index xs i ≡ page_byte m (a + i)) → take n xs ≡ page_bytes m a n
unfolding page_bytes
take-page_bytes m zero a xs h f = refl
take-page_bytes m (suc n) a [] h f = absurd (omega arith)
take-page_bytes m (suc n) a (x ∷ xs) h f =
    ap₂ (λ y ys. y ∷ ys) (f 0 (omega arith) ∙ ap (page_byte m) (let e : a + 0 ≡ a = omega arith in e))
    (take-page_bytes m n (suc a) xs (omega arith) (λ i lt. f (suc i) (omega arith) ∙ ap (page_byte m) (let e : a + suc i ≡ suc a + i = omega arith in e)))

-- Every item of a list of zeros is 0.
pub zero_index : (n i : ℕ) → slice_index (replicate n 0) i ≡ 0
zero_index zero i = refl
zero_index (suc n) zero = refl
zero_index (suc n) (suc i) = zero_index n i

pub number-of : (m : Pages) (a n : ℕ) (xs : List ℕ) → n ≤ length xs → ((i : ℕ) → i < n → slice_index xs i ≡ page_byte m (a + i)) → ((i : ℕ) → n ≤ i → slice_index xs i ≡ 0) → little_endian xs ≡ little_endian (page_bytes m a n)
number-of m a n xs h f z = little_endian-take n xs z ∙ ap little_endian (take-page_bytes m n a xs h f)

-- ---- what a write, a push and a pop leave

abbrev areas : ℕ → List ℕ → List ℕ → List ℕ → Areas
areas b v k r = record { base = b; volatile = v; stack = k; region = r }

same_areas : (b b' : ℕ) (v v' k k' r r' : List ℕ) → b ≡ b' → v ≡ v' → k ≡ k' → r ≡ r' → areas b v k r ≡ areas b' v' k' r'
same_areas b b' v v' k k' r r' e f g h = ap (λ x. areas x v k r) e ∙ ap (λ x. areas b' x k r) f ∙ ap (λ x. areas b' v' x r) g ∙ ap (λ x. areas b' v' k' x) h

pub areas-same : (s s' : Inside) → s'.base ≡ s.base → s'.volatile ≡ s.volatile → s'.region ≡ s.region → s'.mark ≡ s.mark → ((a : ℕ) → page_byte s'.pages a ≡ page_byte s.pages a) → areas_of s' ≡ areas_of s
areas-same s s' b v r k h =
    same_areas _ _ _ _ _ _ _ _ b
    (ap (page_bytes s'.pages volatile_start) v ∙ page_bytes-same s.pages s'.pages volatile_start s.volatile (λ a _ _. h a))
    (ap (λ n. page_bytes s'.pages stack_start (n - stack_start)) k ∙ page_bytes-same s.pages s'.pages stack_start (s.mark - stack_start) (λ a _ _. h a))
    (ap₂ (page_bytes s'.pages) b r ∙ page_bytes-same s.pages s'.pages s.base s.region (λ a _ _. h a))

pub areas-written : (w : Write) (s s' : Inside) → s'.base ≡ s.base → s'.volatile ≡ s.volatile → s'.region ≡ s.region → s'.mark ≡ s.mark → ((a : ℕ) → page_byte s'.pages a ≡ byte_written w a (page_byte s.pages a)) → areas_of s' ≡ after_write w (areas_of s)
areas-written w s s' b v r k h =
    same_areas _ _ _ _ _ _ _ _ b
    (ap (page_bytes s'.pages volatile_start) v ∙ page_bytes-written w s.pages s'.pages h volatile_start s.volatile)
    (ap (λ n. page_bytes s'.pages stack_start (n - stack_start)) k ∙ page_bytes-written w s.pages s'.pages h stack_start (s.mark - stack_start))
    (ap₂ (page_bytes s'.pages) b r ∙ page_bytes-written w s.pages s'.pages h s.base s.region)

-- A byte outside a cleared range, and one inside it.
cleared_outside : (m m' : Pages) (from to a : ℕ) → page_byte m' a ≡ cond (nat_le from a && nat_lt a to) 0 (page_byte m a) → (a < from) ⊎ (to ≤ a) → page_byte m' a ≡ page_byte m a
cleared_outside m m' from to a h o = go (in_or_out from a to)
  where
    go : (((nat_le from a && nat_lt a to) ≡ true) × (from ≤ a) × (a < to)) ⊎ (((nat_le from a && nat_lt a to) ≡ false) × ((a < from) ⊎ (to ≤ a))) → page_byte m' a ≡ page_byte m a
    go (inl x) = absurd (both o)
      where
        both : (a < from) ⊎ (to ≤ a) → ⊥
        both (inl l) = omega (arith, l, x.1)
        both (inr l) = omega (arith, l, x.2)
    go (inr x) = h ∙ ap (λ b. cond b 0 (page_byte m a)) x.0

cleared_inside : (m m' : Pages) (from to a : ℕ) → page_byte m' a ≡ cond (nat_le from a && nat_lt a to) 0 (page_byte m a) → from ≤ a → a < to → page_byte m' a ≡ 0
cleared_inside m m' from to a h low high = go (in_or_out from a to)
  where
    go : (((nat_le from a && nat_lt a to) ≡ true) × (from ≤ a) × (a < to)) ⊎ (((nat_le from a && nat_lt a to) ≡ false) × ((a < from) ⊎ (to ≤ a))) → page_byte m' a ≡ 0
    go (inl x) = h ∙ ap (λ b. cond b 0 (page_byte m a)) x.0
    go (inr x) = absurd (both x.1)
      where
        both : (a < from) ⊎ (to ≤ a) → ⊥
        both (inl l) = omega (arith, l, low)
        both (inr l) = omega (arith, l, high)

pub areas-pushed : (mark : ℕ) (s s' : Inside) → IsRam s → s'.base ≡ s.base → s'.volatile ≡ s.volatile → s'.region ≡ s.region → s'.mark ≡ mark → s.mark ≤ mark → mark ≤ stack_end → ((a : ℕ) → page_byte s'.pages a ≡ cond (nat_le s.mark a && nat_lt a mark) 0 (page_byte s.pages a)) → areas_of s' ≡ after_push mark (areas_of s)
areas-pushed mark s s' i b v r k low high h =
    same_areas _ _ _ _ _ _ _ _ b
    (ap (page_bytes s'.pages volatile_start) v ∙ page_bytes-same s.pages s'.pages volatile_start s.volatile (λ a from to. cleared_outside s.pages s'.pages s.mark mark a (h a) (inl (omega (arith, to, i.volatile, i.start)))))
    (ap (λ n. page_bytes s'.pages stack_start (n - stack_start)) k
    ∙ ap (page_bytes s'.pages stack_start) (let e : mark - stack_start ≡ (s.mark - stack_start) + (mark - s.mark) = omega (arith, i.start) in e)
    ∙ page_bytes-more s'.pages stack_start (s.mark - stack_start) (mark - s.mark)
    ∙ ap₂ (λ xs ys. xs ++ ys)
    (page_bytes-same s.pages s'.pages stack_start (s.mark - stack_start) (λ a from to. cleared_outside s.pages s'.pages s.mark mark a (h a) (inl (omega (arith, to, i.start)))))
    (page_bytes-zeros s'.pages (stack_start + (s.mark - stack_start)) (mark - s.mark) (λ a from to. cleared_inside s.pages s'.pages s.mark mark a (h a) (omega (arith, from, i.start)) (omega (arith, to, i.start, low)))
    ∙ ap (λ n. zeros (mark - n)) (sym (mark-is s i))))
    (ap₂ (page_bytes s'.pages) b r ∙ page_bytes-same s.pages s'.pages s.base s.region (λ a from to. cleared_outside s.pages s'.pages s.mark mark a (h a) (inr (omega (arith, from, i.low, high)))))

pub areas-popped : (mark : ℕ) (s s' : Inside) → IsRam s → s'.base ≡ s.base → s'.volatile ≡ s.volatile → s'.region ≡ s.region → s'.pages ≡ s.pages → s'.mark ≡ mark → mark ≤ s.mark → areas_of s' ≡ after_pop mark (areas_of s)
areas-popped mark s s' i b v r p k high =
    same_areas _ _ _ _ _ _ _ _ b
    (ap₂ (λ m n. page_bytes m volatile_start n) p v)
    (ap₂ (λ m n. page_bytes m stack_start (n - stack_start)) p k ∙ sym (page_bytes-take s.pages stack_start (s.mark - stack_start) (mark - stack_start) (omega arith)))
    (ap₂ (λ m n. page_bytes m s'.base n) p r ∙ ap (λ x. page_bytes s.pages x s.region) b)

none : (m : Pages) → page_bytes m stack_start (stack_start - stack_start) ≡ []
unfolding page_bytes
none m = refl

pub areas-new : (base : ℕ) (volatile region : List ℕ) (s : Inside) (empty m : Pages) → stack_end ≤ base → volatile_start + length volatile ≤ stack_start → s.base ≡ base → s.volatile ≡ length volatile → s.region ≡ length region → s.mark ≡ stack_start → ((a : ℕ) → page_byte m a ≡ byte_written (record { addr = volatile_start; bytes = volatile }) a (page_byte empty a)) → ((a : ℕ) → page_byte s.pages a ≡ byte_written (record { addr = base; bytes = region }) a (page_byte m a)) → areas_of s ≡ areas base volatile [] region
areas-new base volatile region s empty m low high b v r k f g =
    same_areas _ _ _ _ _ _ _ _ b
    (ap (page_bytes s.pages volatile_start) v ∙ page_bytes-is s.pages volatile_start volatile (λ i lt. g (volatile_start + i) ∙ not_written (record { addr = base; bytes = region }) (volatile_start + i) (page_byte m (volatile_start + i)) (inl (omega arith)) ∙ f (volatile_start + i) ∙ written volatile_start volatile (volatile_start + i) (page_byte empty (volatile_start + i)) (omega arith) (omega arith) ∙ ap (slice_index volatile) (let e : volatile_start + i - volatile_start ≡ i = omega arith in e)))
    (ap (λ n. page_bytes s.pages stack_start (n - stack_start)) k ∙ none s.pages)
    (ap₂ (page_bytes s.pages) b r ∙ page_bytes-is s.pages base region (λ i lt. g (base + i) ∙ written base region (base + i) (page_byte m (base + i)) (omega arith) (omega arith) ∙ ap (slice_index region) (let e : base + i - base ≡ i = omega arith in e)))

-- ---- accesses

-- An access that is not refused is valid.
pub no_trap : (r : Areas) (a n align : ℕ) → None ≡ access_trap r a n align → are_valid r a n ≡ true
no_trap r a n align e = go (a % align == 0) (are_valid r a n) e
  where
    go : (b c : Bool) → None ≡ cond {A = Option MemTrap} b (cond {A = Option MemTrap} c None (Some BadAddress)) (Some Misaligned) → c ≡ true
    go true true e = refl
    go true false e = absurd (let z : ⊥ = cc in z)
    go false c e = absurd (let z : ⊥ = cc in z)

access-fits : (s : Inside) (r : Areas) (a n align : ℕ) → areas_of s ≡ r → IsRam s → 0 < n → None ≡ access_trap r a n align → FitsOne (areas_of s) a n
access-fits s r a n align e h p t = valid-fits s a n h p (ap (λ (q : Areas). are_valid q a n) e ∙ no_trap r a n align t)

pub access-below : (s : Inside) (r : Areas) (a n align : ℕ) → areas_of s ≡ r → IsRam s → 0 < n → None ≡ access_trap r a n align → a + 8192 < 2 ^ 64
access-below s r a zero align e h p t = absurd (omega arith)
access-below s r a (suc n) align e h p t = omega (arith, fits-below s a n h (access-fits s r a (suc n) align e h p t))

pub load-is : (s : Inside) (r : Areas) (a n align v : ℕ) → areas_of s ≡ r → IsRam s → 0 < n → None ≡ access_trap r a n align → v ≡ little_endian (page_bytes s.pages a n) → Ok v ≡ loaded r a n align
load-is s r a n align v e h p t f =
    ap (λ x. Ok x) (f ∙ ap little_endian (sym (bytes_in-pages s n a h (access-fits s r a n align e h p t))) ∙ ap (λ (q : Areas). little_endian (bytes_in q a n)) e)
    ∙ ap (λ o. or_trap o (little_endian (bytes_in r a n))) t

-- The low bytes of a number are written.
pub low-written : (addr size value a old : ℕ) (bytes : List ℕ) → size ≤ 8 → bytes ≡ to_le_bytes w64 value →
    byte_written (record { addr = addr; bytes = take size bytes }) a old ≡ byte_written (record { addr = addr; bytes = bytes_of size value }) a old
low-written addr size value a old bytes few is =
    ap (λ xs. byte_written (record { addr = addr; bytes = xs }) a old) (ap (take size) (is ∙ to_le_bytes-bytes_of value) ∙ take-bytes_of size 8 value few)

pub on_ok_map : {A E P Q : Type 0} (r : Result A E) → (P → Q) → OnOk r P → OnOk r Q
on_ok_map (Ok x) f p = f p
on_ok_map (Err e) f p = tt

pub on_err_map : {A E P Q : Type 0} (r : Result A E) → (P → Q) → OnErr r P → OnErr r Q
on_err_map (Ok x) f p = tt
on_err_map (Err e) f p = f p

-- ---- the mark after a push

pub pushed-is : (s : Inside) (r : Areas) (size align : ℕ) → areas_of s ≡ r → IsRam s → pushed_mark r size align ≡ next_multiple_of s.mark align + size
pushed-is s r size align e h = ap (λ m. next_multiple_of m align + size) (ap mark_of (sym e) ∙ mark-is s h)

pub block-is : (s : Inside) (r : Areas) (align : ℕ) → areas_of s ≡ r → IsRam s → block_address r align ≡ next_multiple_of s.mark align
block-is s r align e h = ap (λ m. next_multiple_of m align) (ap mark_of (sym e) ∙ mark-is s h)

-- If there is no next multiple below 2 ^ 64, the multiple is too large.
pub too_large : (o : Option ℕ) (align x : ℕ) → SomeIff o ((0 < align) × (x < 2 ^ 64)) x → ((y : ℕ) → o ≡ Some y → ⊥) → 0 < align → 2 ^ 64 ≤ x
too_large (Some y) align x h none p = absurd (none y refl)
too_large None align x h none p = go (below x (2 ^ 64))
  where
    below : (m n : ℕ) → (m < n) ⊎ (n ≤ m)
    below m n = grind arith

    go : (x < 2 ^ 64) ⊎ (2 ^ 64 ≤ x) → 2 ^ 64 ≤ x
    go (inl lt) = absurd (h (p, lt))
    go (inr le) = le
