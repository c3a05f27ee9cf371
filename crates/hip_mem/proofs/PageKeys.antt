-- The keys of pages, and where pages lie.
use Rattle.std.proofs.Common.{◌≡◌, ◌≢◌, ◌⊎◌, inl, inr, ℕ, ◌+◌, ◌-◌, ◌*◌, ◌<◌, ◌≤◌, ◌&&◌, Bool, true, false, cond, nat_le, nat_lt, List, length, get_or, slice_set, slice_index, refl, sym, ap, subst, ◌∙◌, arith}
use Rattle.std.proofs.lemmas.Bool.Decides.{nat_tests}
use Rattle.std.proofs.lemmas.List.{get_or-set_same, get_or-set_other}
use Rattle.hip_directory.specs.Directories.{number_at}
use Rattle.hip_mem.specs.declared.pages.Pages.{Pages}
use Rattle.hip_mem.specs.PageTable.{key_of}
use Rattle.hip_mem.specs.Pages.{place_of, IsMade, byte_of}

pub in_or_out : (from a to : ℕ) → (((nat_le from a && nat_lt a to) ≡ true) × (from ≤ a) × (a < to)) ⊎ (((nat_le from a && nat_lt a to) ≡ false) × ((a < from) ⊎ (to ≤ a)))
in_or_out from a to = grind (arith, nat_tests)

-- A value that changes only inside a range stays the same outside it.
pub outside : (from a to x' x y : ℕ) → x' ≡ cond (nat_le from a && nat_lt a to) y x → (a < from) ⊎ (to ≤ a) → x' ≡ x
outside from a to x' x y h o = go (in_or_out from a to)
  where
    go : (((nat_le from a && nat_lt a to) ≡ true) × (from ≤ a) × (a < to)) ⊎ (((nat_le from a && nat_lt a to) ≡ false) × ((a < from) ⊎ (to ≤ a))) → x' ≡ x
    go (inl t) = absurd (both o)
      where
        both : (a < from) ⊎ (to ≤ a) → ⊥
        both (inl l) = omega (arith, l, t.1)
        both (inr l) = omega (arith, l, t.2)
    go (inr t) = h ∙ ap (λ b. cond b y x) t.0

pub inside : (from a to x' x y : ℕ) → x' ≡ cond (nat_le from a && nat_lt a to) y x → from ≤ a → a < to → x' ≡ y
inside from a to x' x y h low high = go (in_or_out from a to)
  where
    go : (((nat_le from a && nat_lt a to) ≡ true) × (from ≤ a) × (a < to)) ⊎ (((nat_le from a && nat_lt a to) ≡ false) × ((a < from) ⊎ (to ≤ a))) → x' ≡ y
    go (inl t) = h ∙ ap (λ b. cond b y x) t.0
    go (inr t) = absurd (both t.1)
      where
        both : (a < from) ⊎ (to ≤ a) → ⊥
        both (inl l) = omega (arith, l, low)
        both (inr l) = omega (arith, l, high)

-- ---- two pages have two keys

abbrev Keyed : ℕ → ℕ → ℕ → Type 0
Keyed r n k = ((65536 ≤ n) × (n < 69632) × (k ≡ n - 65536)) ⊎ (((16 ≤ n) × (n < 4112) × (k ≡ n - 16 + 4096)) ⊎ (((r ≤ n) × (n < r + 16384) × (k ≡ n - r + 8192)) ⊎ (k ≡ n + 24576)))

keyed : (r n : ℕ) → Keyed r n (key_of r n)
unfolding key_of
keyed r n = go (in_or_out 65536 n 69632) (in_or_out 16 n 4112) (in_or_out r n (r + 16384))
  where
    go : (((nat_le 65536 n && nat_lt n 69632) ≡ true) × (65536 ≤ n) × (n < 69632)) ⊎ (((nat_le 65536 n && nat_lt n 69632) ≡ false) × ((n < 65536) ⊎ (69632 ≤ n)))
        → (((nat_le 16 n && nat_lt n 4112) ≡ true) × (16 ≤ n) × (n < 4112)) ⊎ (((nat_le 16 n && nat_lt n 4112) ≡ false) × ((n < 16) ⊎ (4112 ≤ n)))
        → (((nat_le r n && nat_lt n (r + 16384)) ≡ true) × (r ≤ n) × (n < r + 16384)) ⊎ (((nat_le r n && nat_lt n (r + 16384)) ≡ false) × ((n < r) ⊎ (r + 16384 ≤ n)))
        → Keyed r n (cond (nat_le 65536 n && nat_lt n 69632) (n - 65536) (cond (nat_le 16 n && nat_lt n 4112) (n - 16 + 4096) (cond (nat_le r n && nat_lt n (r + 16384)) (n - r + 8192) (n + 24576))))
    go (inl x) y z = inl (x.1, x.2, rw x.0 refl)
    go (inr x) (inl y) z = inr (inl (y.1, y.2, rw (x.0, y.0) refl))
    go (inr x) (inr y) (inl z) = inr (inr (inl (z.1, z.2, rw (x.0, y.0, z.0) refl)))
    go (inr x) (inr y) (inr z) = inr (inr (inr (rw (x.0, y.0, z.0) refl)))

keys-same : (r m n k : ℕ) → 1048576 ≤ r → Keyed r m k → Keyed r n k → m ≡ n
keys-same r m n k h (inl x) (inl y) = omega (arith, x.0, x.2, y.0, y.2)
keys-same r m n k h (inl x) (inr (inl y)) = absurd (omega (arith, x.1, x.2, y.2))
keys-same r m n k h (inl x) (inr (inr (inl y))) = absurd (omega (arith, x.1, x.2, y.2))
keys-same r m n k h (inl x) (inr (inr (inr y))) = absurd (omega (arith, x.1, x.2, y))
keys-same r m n k h (inr (inl x)) (inl y) = absurd (omega (arith, y.1, y.2, x.2))
keys-same r m n k h (inr (inl x)) (inr (inl y)) = omega (arith, x.0, x.2, y.0, y.2)
keys-same r m n k h (inr (inl x)) (inr (inr (inl y))) = absurd (omega (arith, x.0, x.1, x.2, y.2))
keys-same r m n k h (inr (inl x)) (inr (inr (inr y))) = absurd (omega (arith, x.0, x.1, x.2, y))
keys-same r m n k h (inr (inr (inl x))) (inl y) = absurd (omega (arith, y.1, y.2, x.2))
keys-same r m n k h (inr (inr (inl x))) (inr (inl y)) = absurd (omega (arith, y.0, y.1, y.2, x.2))
keys-same r m n k h (inr (inr (inl x))) (inr (inr (inl y))) = omega (arith, x.0, x.2, y.0, y.2)
keys-same r m n k h (inr (inr (inl x))) (inr (inr (inr y))) = absurd (omega (arith, x.0, x.1, x.2, y))
keys-same r m n k h (inr (inr (inr x))) (inl y) = absurd (omega (arith, y.1, y.2, x))
keys-same r m n k h (inr (inr (inr x))) (inr (inl y)) = absurd (omega (arith, y.0, y.1, y.2, x))
keys-same r m n k h (inr (inr (inr x))) (inr (inr (inl y))) = absurd (omega (arith, y.0, y.1, y.2, x))
keys-same r m n k h (inr (inr (inr x))) (inr (inr (inr y))) = omega (arith, x, y)

pub keys-apart : (r m n : ℕ) → 1048576 ≤ r → m ≢ n → key_of r m ≢ key_of r n
keys-apart r m n h ne e = ne (keys-same r m n (key_of r n) h (subst (Keyed r m) e (keyed r m)) (keyed r n))

-- ---- where pages lie

pub places-apart : (m : Pages) (n k : ℕ) → n ≢ k → IsMade m k → place_of m n ≢ place_of m k
unfolding place_of
places-apart m n k ne made e = m.pages.apart (key_of m.region k) (key_of m.region n) (keys-apart m.region k n m.above (λ z. ne (sym z))) (λ z. omega (arith, z, made)) (sym e)

-- A byte of another page is not in a range of bytes of a page.
pub apart-range : (x y i at to : ℕ) → x ≢ y → i < 4096 → to ≤ 4096 → (4096 * x + i < 4096 * y + at) ⊎ (4096 * y + to ≤ 4096 * x + i)
apart-range x y i at to ne lt le = go (split x y)
  where
    split : (x y : ℕ) → (x < y) ⊎ (y ≤ x)
    split x y = grind arith

    go : (x < y) ⊎ (y ≤ x) → (4096 * x + i < 4096 * y + at) ⊎ (4096 * y + to ≤ 4096 * x + i)
    go (inl l) = inl (omega arith)
    go (inr l) = inr (omega (arith, l, ne))

place-same : (m m' : Pages) (n : ℕ) → m'.region ≡ m.region → m'.directory ≡ m.directory → place_of m' n ≡ place_of m n
unfolding place_of
place-same m m' n r d = ap (λ x. number_at x (key_of m'.region n)) d ∙ ap (λ x. number_at m.directory (key_of x n)) r

-- A change of bytes of one page keeps the bytes of all other pages.
pub others-kept : (m m' : Pages) (k at to from end : ℕ) (y : ℕ → ℕ) → m'.region ≡ m.region → m'.directory ≡ m.directory → IsMade m k → to ≤ 4096 → from ≡ 4096 * place_of m k + at → end ≡ 4096 * place_of m k + to → ((j : ℕ) → slice_index m'.bytes.items j ≡ cond (nat_le from j && nat_lt j end) (y j) (slice_index m.bytes.items j)) → (n i : ℕ) → n ≢ k → i < 4096 → byte_of m' n i ≡ byte_of m n i
unfolding byte_of
others-kept m m' k at to from end y r d made le from_is end_is h n i ne lt =
    ap (λ p. slice_index m'.bytes.items (4096 * p + i)) (place-same m m' n r d)
    ∙ outside from (4096 * place_of m n + i) end _ _ _ (h (4096 * place_of m n + i)) (elim (apart-range (place_of m n) (place_of m k) i at to (places-apart m n k ne made) lt le) [ inl l ↦ inl (omega (arith, l, from_is)) | inr l ↦ inr (omega (arith, l, end_is)) ])

pub zero-byte : (m : Pages) (n i : ℕ) → place_of m n ≡ 0 → i < 4096 → byte_of m n i ≡ 0
unfolding byte_of
zero-byte m n i e lt = ap (slice_index m.bytes.items) (let z : 4096 * place_of m n + i ≡ i = omega (arith, e) in z) ∙ m.pages.first i lt

-- The pages of the stack have the first keys.
stack-key : (r n : ℕ) → 65536 ≤ n → n < 69632 → key_of r n ≡ n - 65536
unfolding key_of
stack-key r n low high = go (in_or_out 65536 n 69632)
  where
    out : (n < 65536) ⊎ (69632 ≤ n) → ⊥
    out (inl l) = omega (arith, l, low)
    out (inr l) = omega (arith, l, high)

    go : (((nat_le 65536 n && nat_lt n 69632) ≡ true) × (65536 ≤ n) × (n < 69632)) ⊎ (((nat_le 65536 n && nat_lt n 69632) ≡ false) × ((n < 65536) ⊎ (69632 ≤ n))) → cond (nat_le 65536 n && nat_lt n 69632) (n - 65536) (cond (nat_le 16 n && nat_lt n 4112) (n - 16 + 4096) (cond (nat_le r n && nat_lt n (r + 16384)) (n - r + 8192) (n + 24576))) ≡ n - 65536
    go (inl t) = rw t.0 refl
    go (inr t) = absurd (out t.1)

pub stack-place : (m : Pages) (n : ℕ) → 65536 ≤ n → n < 69632 → place_of m n ≡ number_at m.directory (n - 65536)
unfolding place_of
stack-place m n low high = ap (number_at m.directory) (stack-key m.region n low high)

-- ---- pages that may have other bytes than 0

equal_or_not : (j k : ℕ) → (j ≡ k) ⊎ (j ≢ k)
equal_or_not j k = grind arith

pub marked : (flags : List Bool) (place : ℕ) (b : Bool) → place < length flags → (n : ℕ) → get_or (slice_set flags place b) n true ≡ false → ((n ≡ place) × (b ≡ false)) ⊎ ((n ≢ place) × (get_or flags n true ≡ false))
marked flags place b lt n e = go (equal_or_not n place)
  where
    go : (n ≡ place) ⊎ (n ≢ place) → ((n ≡ place) × (b ≡ false)) ⊎ ((n ≢ place) × (get_or flags n true ≡ false))
    go (inl x) = inl (x, sym (ap (λ i. get_or (slice_set flags place b) i true) x ∙ get_or-set_same flags place b true lt) ∙ e)
    go (inr x) = inr (x, sym (get_or-set_other flags place n b true x) ∙ e)
