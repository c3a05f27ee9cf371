-- Bytes of stored values.
use Rattle.std.proofs.Common.{◌≡◌, ℕ, zero, suc, ◌+◌, ◌*◌, ◌/◌, ◌%◌, ◌^◌, ◌<◌, ◌≤◌, Bool, true, false, cond, ◌&&◌, nat_le, nat_lt, List, [], ◌∷◌, ◌++◌, length, take, Some, max, min, slice_get, slice_index, refl, sym, ap, ap₂, ◌∙◌, arith}
use Rattle.std.proofs.lemmas.Bool.Decides.{nat_tests}
use Rattle.hip_types.specs.Bytes.{bytes_of}
use Rattle.hip_lines.specs.Image.{byte_after}
use Rattle.hip_crash.specs.Values.{stored_covers, stored_byte, bytes_with, bytes_after}
use Rattle.hip_crash.specs.declared.values.StoredValue.{StoredValue}

-- ---- the bytes of a value

-- A byte does not depend on how many are taken.
pub byte-any : (n m v i : ℕ) → i < n → i < m → slice_index (bytes_of n v) i ≡ slice_index (bytes_of m v) i
byte-any zero m v i h k = absurd (omega (arith, h))
byte-any (suc n) zero v i h k = absurd (omega (arith, k))
byte-any (suc n) (suc m) v zero h k = refl
byte-any (suc n) (suc m) v (suc i) h k = byte-any n m (v / 256) i (omega (arith, h)) (omega (arith, k))

-- After the bytes of a value there are zeros.
pub byte-past : (n k v i : ℕ) → v < 256 ^ k → k ≤ i → slice_index (bytes_of n v) i ≡ 0
byte-past zero k v i h le = refl
byte-past (suc n) zero v zero h le = let z : v ≡ 0 = omega (arith, h) in ap (λ x. x % 256) z
byte-past (suc n) zero v (suc i) h le = byte-past n zero (v / 256) i (omega (arith, h)) (omega arith)
byte-past (suc n) (suc k) v zero h le = absurd (omega (arith, le))
byte-past (suc n) (suc k) v (suc i) h le = byte-past n k (v / 256) i (less (256 ^ k) (omega (arith, h))) (omega (arith, le))
  where
    less : (p : ℕ) → v < 256 * p → v / 256 < p
    less p q = omega (arith, q)

-- ---- lists of bytes

pub same_lists : (xs ys : List ℕ) → length xs ≡ length ys → ((i : ℕ) → i < length xs → slice_index xs i ≡ slice_index ys i) → xs ≡ ys
same_lists [] [] n h = refl
same_lists [] (y ∷ ys) n h = absurd (omega (arith, n))
same_lists (x ∷ xs) [] n h = absurd (omega (arith, n))
same_lists (x ∷ xs) (y ∷ ys) n h = ap₂ (λ z zs. z ∷ zs) (h 0 (omega arith)) (same_lists xs ys (omega (arith, n)) (λ i lt. h (suc i) (omega (arith, lt))))

pub length-bytes_with : (v : StoredValue) (b : ℕ) (xs : List ℕ) → length (bytes_with v b xs) ≡ length xs
length-bytes_with v b [] = refl
length-bytes_with v b (x ∷ xs) = ap suc (length-bytes_with v (suc b) xs)

pub index-bytes_with : (v : StoredValue) (b : ℕ) (xs : List ℕ) (i : ℕ) → i < length xs → slice_index (bytes_with v b xs) i ≡ cond (stored_covers v (b + i)) (stored_byte v (b + i)) (slice_index xs i)
index-bytes_with v b [] i h = absurd (omega (arith, h))
index-bytes_with v b (x ∷ xs) zero h = ap (λ c. cond (stored_covers v c) (stored_byte v c) x) (let e : b ≡ b + 0 = omega arith in e)
index-bytes_with v b (x ∷ xs) (suc i) h = index-bytes_with v (suc b) xs i (omega (arith, h)) ∙ ap (λ c. cond (stored_covers v c) (stored_byte v c) (slice_index xs i)) (let e : suc b + i ≡ b + suc i = omega arith in e)

pub length-bytes_after : (vs : List StoredValue) (b : ℕ) (xs : List ℕ) → length (bytes_after vs b xs) ≡ length xs
length-bytes_after [] b xs = refl
length-bytes_after (v ∷ vs) b xs = length-bytes_after vs b (bytes_with v b xs) ∙ length-bytes_with v b xs

-- Each byte after some stored values is the byte that these values give.
pub index-bytes_after : (vs : List StoredValue) (b : ℕ) (xs : List ℕ) (i : ℕ) → i < length xs → slice_index (bytes_after vs b xs) i ≡ byte_after stored_covers stored_byte vs (b + i) (slice_index xs i)
index-bytes_after [] b xs i h = refl
index-bytes_after (v ∷ vs) b xs i h = index-bytes_after vs b (bytes_with v b xs) i (omega (arith, h, length-bytes_with v b xs)) ∙ ap (byte_after stored_covers stored_byte vs (b + i)) (index-bytes_with v b xs i h)

pub bytes_after-append : (vs ws : List StoredValue) (b : ℕ) (xs : List ℕ) → bytes_after (vs ++ ws) b xs ≡ bytes_after ws b (bytes_after vs b xs)
bytes_after-append [] ws b xs = refl
bytes_after-append (v ∷ vs) ws b xs = bytes_after-append vs ws b (bytes_with v b xs)

pub index-take : (n : ℕ) (xs : List ℕ) (i : ℕ) → i < n → slice_index (take n xs) i ≡ slice_index xs i
index-take zero xs i h = absurd (omega arith)
index-take (suc n) [] i h = refl
index-take (suc n) (x ∷ xs) zero h = refl
index-take (suc n) (x ∷ xs) (suc i) h = index-take n xs i (omega arith)

-- The bytes after one more stored value.
after-suc : (vs : List StoredValue) (i : ℕ) (v : StoredValue) (b : ℕ) (xs : List ℕ) → slice_get vs i ≡ Some v → bytes_after (take (suc i) vs) b xs ≡ bytes_with v b (bytes_after (take i vs) b xs)
after-suc [] i v b xs e = absurd (let z : ⊥ = cc in z)
after-suc (w ∷ vs) zero v b xs e = let s : w ≡ v = cc in ap (λ u. bytes_with u b xs) s
after-suc (w ∷ vs) (suc i) v b xs e = after-suc vs i v b (bytes_with w b xs) e

pub after-more : (vs : List StoredValue) (i : ℕ) (v : StoredValue) (b : ℕ) (xs : List ℕ) → slice_get vs i ≡ Some v → bytes_after (take (i + 1) vs) b xs ≡ bytes_with v b (bytes_after (take i vs) b xs)
after-more vs i v b xs e = ap (λ n. bytes_after (take n vs) b xs) (let z : i + 1 ≡ suc i = omega arith in z) ∙ after-suc vs i v b xs e

-- The bytes that a loop has written are those of the value.
module _ (v : StoredValue) (b : ℕ) (old new : List ℕ) (len : length new ≡ length old) where
  pub written : (from to : ℕ) → from ≡ max v.offset b → ((i : ℕ) → i < length old → stored_covers v (b + i) ≡ (nat_le from (b + i) && nat_lt (b + i) to))
      → ((i : ℕ) → i < length old → slice_index new i ≡ cond (nat_le from (b + i) && nat_lt (b + i) to) (stored_byte v (b + i)) (slice_index old i))
      → new ≡ bytes_with v b old
  written from to f covers at = same_lists new (bytes_with v b old) (len ∙ sym (length-bytes_with v b old)) (λ i lt.
      let l : i < length old = omega (arith, len, lt) in
      at i l ∙ ap (λ t. cond t (stored_byte v (b + i)) (slice_index old i)) (sym (covers i l)) ∙ sym (index-bytes_with v b old i l))

-- Two tests are equal if each implies the other.
pub same_test : (a b : Bool) → (a ≡ true → b ≡ true) → (b ≡ true → a ≡ true) → a ≡ b
same_test true true f g = refl
same_test true false f g = sym (f refl)
same_test false true f g = g refl
same_test false false f g = refl

tests : (a x b : ℕ) → nat_le a x && nat_lt x b ≡ true → (a ≤ x) × (x < b)
tests a x b h = (grind (arith, nat_tests), grind (arith, nat_tests))

test : (a x b : ℕ) → a ≤ x → x < b → nat_le a x && nat_lt x b ≡ true
test a x b h k = grind (arith, nat_tests)

-- A range that is cut off at the ends of a line has the same bytes of the line.
pub same_range : (o n s x from end at most : ℕ) → from ≡ max o s → end ≡ min (min (o + n) most) (s + 64) → s + 64 ≤ most → from ≤ at → end ≤ at → at ≤ max from end → s ≤ x → x < s + 64
    → (nat_le o x && nat_lt x (o + n)) ≡ (nat_le from x && nat_lt x at)
same_range o n s x from end at most f e m low high exact l u = same_test (nat_le o x && nat_lt x (o + n)) (nat_le from x && nat_lt x at)
    (λ t. let k = tests o x (o + n) t in test from x at (omega (arith, f, l, k.0)) (omega (arith, e, k.1, m, l, u, high)))
    (λ t. let k = tests from x at t in test o x (o + n) (omega (arith, f, k.0)) (under k.0 k.1))
  where
    under : from ≤ x → x < at → x < o + n
    under a b = omega (arith, exact, f, e, a, b, l, u, m)
