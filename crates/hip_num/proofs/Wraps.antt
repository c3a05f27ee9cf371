-- Arithmetic at 64 bits, cut down to a smaller width.
use Rattle.std.proofs.Common.{ℕ, suc, ◌+◌, ◌-◌, ◌%◌, ◌^◌, ◌<◌, ◌≡◌, refl, sym, arith, Ok}
use Rattle.std.specs.Prelude.{ℤ, pos, negsuc, FitsSigned}
use Rattle.std.specs.Int.{cast_unsigned, w64}
use Rattle.std.proofs.Math.Nat.{mod-lt, mod-eq_of_lt}
use Rattle.std.proofs.Math.Pow.{mod-mod-pow}
use Rattle.hip_types.specs.declared.number.Width.{Width}
use Rattle.hip_types.specs.declared.number.Width.TheVariants.{W1, W8, W16, W32, W64}
use Rattle.hip_types.specs.Widths.{bits_of}
use Rattle.hip_types.specs.Numbers.{bits, modulus, modulus_pos, same_bits, wrapped}
use Rattle.hip_num.specs.Arithmetic.{shifted}

low_bits : (w : Width) (n : ℕ) → n % 2 ^ 64 % modulus w ≡ n % modulus w
low_bits W1 n = mod-mod-pow n 63 1
low_bits W8 n = mod-mod-pow n 56 8
low_bits W16 n = mod-mod-pow n 48 16
low_bits W32 n = mod-mod-pow n 32 32
low_bits W64 n = mod-mod-pow n 0 64

pub bits_wrap : (w : Width) (n : ℕ) → bits w (n % 2 ^ 64) ≡ bits w n
bits_wrap w n = same_bits _ _ refl (low_bits w n)

less : (w : Width) (a b : ℕ) → b < modulus w → (a + (2 ^ 64 - b)) % modulus w ≡ (a + modulus w - b) % modulus w
less W1 a b h = omega arith
less W8 a b h = omega arith
less W16 a b h = omega arith
less W32 a b h = omega arith
less W64 a b h = omega arith

pub bits_sub : (w : Width) (a b : ℕ) → b < modulus w → bits w (a + (2 ^ 64 - b)) ≡ bits w (a + modulus w - b)
bits_sub w a b h = same_bits _ _ refl (less w a b h)

negative : (w : Width) (n : ℕ) → n < 2 ^ 63 → (2 ^ 64 - suc n) % modulus w ≡ (modulus w - 1 - n % modulus w) % modulus w
negative W1 n h = omega arith
negative W8 n h = omega arith
negative W16 n h = omega arith
negative W32 n h = omega arith
negative W64 n h = omega arith

-- A number with a sign and its 64 bits are the same modulo 2 ^ N.
pub bits_cast : (w : Width) (z : ℤ) → FitsSigned w64 z → bits w (cast_unsigned w64 z) ≡ bits w (wrapped w z)
bits_cast w (pos n) h = same_bits _ _ refl (sym (mod-eq_of_lt (mod-lt n (modulus_pos w))))
bits_cast w (negsuc n) h = same_bits _ _ refl (negative w n (omega arith))

-- A shift by less than the width has a result.
pub shifted_in : (w : Width) (amount value : ℕ) → amount < bits_of w → shifted w amount value ≡ Ok value
shifted_in w amount value h = grind arith
