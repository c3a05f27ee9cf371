-- The low bytes of a number are its remainder by a power of 256.
use Rattle.std.proofs.Common.{◌≡◌, ℕ, zero, suc, ◌+◌, ◌*◌, ◌/◌, ◌%◌, ◌^◌, ◌<◌, refl, sym, ap, ◌∙◌, arith}
use Rattle.std.proofs.Math.Arith.{mod-mul}
use Rattle.hip_types.specs.Bytes.{little_endian, bytes_of}

positive : (n : ℕ) → 0 < 256 ^ n
positive zero = omega arith
positive (suc n) = let h = positive n in let e : 256 ^ suc n ≡ 256 * 256 ^ n = omega arith in omega (arith, h, e)

low_bytes_are : (n v : ℕ) → little_endian (bytes_of n v) ≡ v % 256 ^ n
low_bytes_are zero v = omega arith
low_bytes_are (suc n) v =
    let first : v % (256 ^ n * 256) ≡ (v / 256 % 256 ^ n) * 256 + v % 256 = mod-mul v {m = 256 ^ n} {c = 256} (positive n) (omega arith) in
    let rest = low_bytes_are n (v / 256) in
    let power : 256 ^ suc n ≡ 256 ^ n * 256 = omega arith in
    ap (λ x. v % 256 + 256 * x) rest ∙ (let e : v % 256 + 256 * (v / 256 % 256 ^ n) ≡ v % (256 ^ n * 256) = omega (arith, first) in e) ∙ ap (λ m. v % m) (sym power)

power_of_bits : (n : ℕ) → n < 8 → 1 * 2 ^ (8 * n) % 18446744073709551616 ≡ 256 ^ n
power_of_bits zero h = refl
power_of_bits (suc zero) h = refl
power_of_bits (suc (suc zero)) h = refl
power_of_bits (suc (suc (suc zero))) h = refl
power_of_bits (suc (suc (suc (suc zero)))) h = refl
power_of_bits (suc (suc (suc (suc (suc zero))))) h = refl
power_of_bits (suc (suc (suc (suc (suc (suc zero)))))) h = refl
power_of_bits (suc (suc (suc (suc (suc (suc (suc zero))))))) h = refl
power_of_bits (suc (suc (suc (suc (suc (suc (suc (suc n)))))))) h = absurd (omega (arith, h))

-- The remainder as the code takes it, where fewer than eight bytes are wanted.
pub remainder_is : (n v : ℕ) → n < 8 → v % (1 * 2 ^ (8 * n) % 18446744073709551616) ≡ little_endian (bytes_of n v)
remainder_is n v h = ap (λ m. v % m) (power_of_bits n h) ∙ sym (low_bytes_are n v)
