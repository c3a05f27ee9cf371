-- Laws of numbers as bytes.
use Rattle.std.proofs.Common.{◌≡◌, ℕ, zero, suc, ◌+◌, ◌*◌, ◌/◌, ◌%◌, ◌^◌, ◌<◌, ◌≤◌, List, [], ◌∷◌, length, take, slice_index, refl, sym, ap, ap₂, ◌∙◌, arith}
use Rattle.std.proofs.Math.Nat.{div-div-eq-div-mul, pow-suc}
use Rattle.std.specs.Int.{w64, byte_at, bytes_low_first, to_le_bytes, from_le_bytes}
use Rattle.hip_types.specs.Bytes.{little_endian, bytes_of, zeros}

pub length-bytes_of : (n v : ℕ) → length (bytes_of n v) ≡ n
length-bytes_of zero v = refl
length-bytes_of (suc n) v = ap suc (length-bytes_of n (v / 256))

pub length-zeros : (n : ℕ) → length (zeros n) ≡ n
unfolding zeros
length-zeros zero = refl
length-zeros (suc n) = ap suc (length-zeros n)

pub slice_index-zeros : (n i : ℕ) → slice_index (zeros n) i ≡ 0
unfolding zeros
slice_index-zeros zero i = refl
slice_index-zeros (suc n) zero = refl
slice_index-zeros (suc n) (suc i) = slice_index-zeros n i

power : (n : ℕ) → 256 ^ suc n ≡ 256 * 256 ^ n
power n = omega arith

-- A number below 256 ^ n is the number of its n low bytes.
pub little_endian-bytes_of : (n v : ℕ) → v < 256 ^ n → little_endian (bytes_of n v) ≡ v
little_endian-bytes_of zero v h = omega (arith, h)
little_endian-bytes_of (suc n) v h =
    let d : v / 256 < 256 ^ n = omega (arith, h, power n) in
    let e = little_endian-bytes_of n (v / 256) d in
    omega (arith, e)

pub bytes_of-below : (n v i : ℕ) → slice_index (bytes_of n v) i < 256
bytes_of-below zero v i = omega arith
bytes_of-below (suc n) v zero = omega arith
bytes_of-below (suc n) v (suc i) = bytes_of-below n (v / 256) i

-- A list of n bytes consists of the n low bytes of its number.
pub bytes_of-little_endian : (bs : List ℕ) → ((i : ℕ) → slice_index bs i < 256)
    → bytes_of (length bs) (little_endian bs) ≡ bs
bytes_of-little_endian [] h = refl
bytes_of-little_endian (b ∷ bs) h =
    let low : b < 256 = h 0 in
    let r : (b + 256 * little_endian bs) % 256 ≡ b = omega arith in
    let q : (b + 256 * little_endian bs) / 256 ≡ little_endian bs = omega arith in
    ap₂ (λ x y. x ∷ bytes_of (length bs) y) r q
    ∙ ap (λ xs. b ∷ xs) (bytes_of-little_endian bs (λ i. h (suc i)))

pub little_endian-below : (bs : List ℕ) → ((i : ℕ) → slice_index bs i < 256)
    → little_endian bs < 256 ^ length bs
little_endian-below [] h = omega arith
little_endian-below (b ∷ bs) h =
    let low : b < 256 = h 0 in
    let e = little_endian-below bs (λ i. h (suc i)) in
    omega (arith, e, low, power (length bs))

-- Zeros after the first n bytes do not change the number.
pub little_endian-take : (n : ℕ) (bs : List ℕ) → ((i : ℕ) → n ≤ i → slice_index bs i ≡ 0)
    → little_endian bs ≡ little_endian (take n bs)
little_endian-take n [] h = ap little_endian (sym (take-nil n))
  where
    take-nil : (n : ℕ) → take {A = ℕ} n [] ≡ []
    take-nil zero = refl
    take-nil (suc n) = refl
little_endian-take zero (b ∷ bs) h =
    let z : b ≡ 0 = h 0 (omega arith) in
    let e : little_endian bs ≡ 0 = little_endian-take zero bs (λ i le. h (suc i) (omega arith)) in
    omega arith
little_endian-take (suc n) (b ∷ bs) h =
    ap (λ x. b + 256 * x) (little_endian-take n bs (λ i le. h (suc i) (omega arith)))

-- ---- the standard library's bytes

byte_at-div : (i v : ℕ) → byte_at i v ≡ (v / 256 ^ i) % 256
byte_at-div zero v = omega arith
byte_at-div (suc i) v = refl

pub bytes_low_first-bytes_of : (k i v : ℕ) → bytes_low_first i k v ≡ bytes_of k (v / 256 ^ i)
bytes_low_first-bytes_of zero i v = refl
bytes_low_first-bytes_of (suc k) i v =
    ap₂ (λ x xs. x ∷ xs) (byte_at-div i v) (bytes_low_first-bytes_of k (suc i) v
    ∙ ap (bytes_of k) (ap (λ d. v / d) (pow-suc 256 i) ∙ sym (div-div-eq-div-mul v (256 ^ i) 256)))

pub to_le_bytes-bytes_of : (v : ℕ) → to_le_bytes w64 v ≡ bytes_of 8 v
to_le_bytes-bytes_of v = bytes_low_first-bytes_of 8 0 v
    ∙ ap (bytes_of 8) (let e : v / 256 ^ 0 ≡ v = omega arith in e)

pub take-bytes_of : (n m v : ℕ) → n ≤ m → take n (bytes_of m v) ≡ bytes_of n v
take-bytes_of zero m v h = refl
take-bytes_of (suc n) zero v h = absurd (omega arith)
take-bytes_of (suc n) (suc m) v h = ap (λ xs. v % 256 ∷ xs) (take-bytes_of n m (v / 256) (omega arith))

from_eight : (a b c d e f g h : ℕ) → from_le_bytes w64 (a ∷ b ∷ c ∷ d ∷ e ∷ f ∷ g ∷ h ∷ [])
    ≡ little_endian (a ∷ b ∷ c ∷ d ∷ e ∷ f ∷ g ∷ h ∷ [])
from_eight a b c d e f g h = omega arith

pub from_le_bytes-little_endian : (bs : List ℕ) → length bs ≡ 8 → from_le_bytes w64 bs ≡ little_endian bs
from_le_bytes-little_endian (a ∷ b ∷ c ∷ d ∷ e ∷ f ∷ g ∷ h ∷ []) n = from_eight a b c d e f g h
from_le_bytes-little_endian [] n = absurd (omega (arith, n))
from_le_bytes-little_endian (a ∷ []) n = absurd (omega (arith, n))
from_le_bytes-little_endian (a ∷ b ∷ []) n = absurd (omega (arith, n))
from_le_bytes-little_endian (a ∷ b ∷ c ∷ []) n = absurd (omega (arith, n))
from_le_bytes-little_endian (a ∷ b ∷ c ∷ d ∷ []) n = absurd (omega (arith, n))
from_le_bytes-little_endian (a ∷ b ∷ c ∷ d ∷ e ∷ []) n = absurd (omega (arith, n))
from_le_bytes-little_endian (a ∷ b ∷ c ∷ d ∷ e ∷ f ∷ []) n = absurd (omega (arith, n))
from_le_bytes-little_endian (a ∷ b ∷ c ∷ d ∷ e ∷ f ∷ g ∷ []) n = absurd (omega (arith, n))
from_le_bytes-little_endian (a ∷ b ∷ c ∷ d ∷ e ∷ f ∷ g ∷ h ∷ i ∷ bs) n = absurd (omega (arith, n))
