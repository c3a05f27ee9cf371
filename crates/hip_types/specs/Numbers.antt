-- The integers of the machine: an integer of N bits is a number below 2 ^ N, which may be read with a sign.
use Rattle.std.specs.Prelude.{ℕ, ◌-◌, ◌*◌, ◌<◌, ◌≤◌, ◌%◌, ◌^◌, ◌≡◌, ℤ, pos, negsuc, ◌-ℤ◌, nat_lt, if◌then◌else◌, refl}
use Rattle.std.proofs.Common.{arith, ⊎_elim, sym, ap, ◌∙◌}
use Rattle.std.proofs.Math.Nat.{mod-lt, mod-eq_of_lt}
use Rattle.std.proofs.Math.Bridge.{le_prop}
use Rattle.std.proofs.lemmas.Nat.{pow_pos}
use Rattle.std.proofs.lemmas.Int.{ints}
use Rattle.std.proofs.lemmas.Bool.{cases_lt}
use mathlib.Core.HLevel.{is_prop→PathP}
use Rattle.hip_types.specs.declared.number.Width.{Width}
use Rattle.hip_types.specs.declared.number.Width.TheVariants.{W1, W8, W16, W32, W64}
use Rattle.hip_types.specs.declared.number.Bits.{Bits}
use Rattle.hip_types.specs.Widths.{bits_of}

-- How many integers of this width there are.
abbrev pub modulus : Width → ℕ
modulus w = 2 ^ bits_of w

-- The number modulo 2 ^ N, as an integer of this width.
abbrev pub bits : Width → ℕ → Bits
bits w n = record { width = w; value = n % modulus w; in_range = mod-lt n (pow_pos (bits_of w)) }

-- The least integer of this width that has a sign, which is 2 ^ (N - 1).
abbrev pub sign_of : Width → ℕ
sign_of w = 2 ^ (bits_of w - 1)

-- An integer read with a sign: minus 2 ^ N if it is 2 ^ (N - 1) or more.
abbrev pub signed : Width → ℕ → ℤ
signed w n = if nat_lt n (sign_of w) then pos n else pos n -ℤ pos (modulus w)

-- A number with a sign modulo 2 ^ N, which is an integer of this width.
abbrev pub wrapped : Width → ℤ → ℕ
wrapped w (pos n) = n % modulus w
wrapped w (negsuc n) = modulus w - 1 - n % modulus w

-- ---- laws

-- Two integers are equal if their widths and values are.
pub same_bits : (a b : Bits) → a.width ≡ b.width → a.value ≡ b.value → a ≡ b
same_bits a b width value =
    let below = is_prop→PathP (λ i. value i < 2 ^ bits_of (width i)) (λ i. le_prop) a.in_range b.in_range in
    λ i. record { width = width i; value = value i; in_range = below i }

-- An integer is its own value modulo 2 ^ N.
pub bits-value : (b : Bits) → bits b.width b.value ≡ b
bits-value b = same_bits _ _ refl (mod-eq_of_lt b.in_range)

pub modulus_pos : (w : Width) → 0 < modulus w
modulus_pos w = pow_pos (bits_of w)

-- Half of the integers have a sign.
pub modulus_is : (w : Width) → modulus w ≡ sign_of w * 2
modulus_is W1 = refl
modulus_is W8 = refl
modulus_is W16 = refl
modulus_is W32 = refl
modulus_is W64 = refl

pub wrapped-lt : (w : Width) (z : ℤ) → wrapped w z < modulus w
wrapped-lt w (pos n) = mod-lt n (modulus_pos w)
wrapped-lt w (negsuc n) = omega (arith, modulus_pos w)

pub signed-low : (w : Width) (n : ℕ) → n < sign_of w → signed w n ≡ pos n
signed-low w n h = grind (arith, ints)

pub signed-high : (w : Width) (n : ℕ) → sign_of w ≤ n → n < modulus w
    → signed w n ≡ negsuc (modulus w - 1 - n)
signed-high w n h k = grind (arith, ints)

-- Reading with a sign loses nothing.
pub wrapped-signed : (w : Width) (n : ℕ) → n < modulus w → wrapped w (signed w n) ≡ n
wrapped-signed w n h =
    ⊎_elim (λ low. rw (signed-low w n low) (mod-eq_of_lt h))
    (λ high. rw (signed-high w n high h) (from_above w n h))
    (cases_lt n (sign_of w))
  where
    from_above : (v : Width) (m : ℕ) → m < modulus v → modulus v - 1 - (modulus v - 1 - m) % modulus v ≡ m
    from_above v m k =
        let below : modulus v - 1 - m < modulus v = omega (arith, modulus_pos v) in
        rw (mod-eq_of_lt below) (omega (arith, modulus_pos v))

-- Two integers that are the same when read with a sign are equal.
pub signed-same : (w : Width) (m n : ℕ) → m < modulus w → n < modulus w → signed w m ≡ signed w n → m ≡ n
signed-same w m n h k e = sym (wrapped-signed w m h) ∙ ap (wrapped w) e ∙ wrapped-signed w n k
