-- Quotients of numbers with a sign that fit 64 bits.
use Rattle.std.proofs.Common.{ℕ, zero, suc, ◌-◌, ◌/◌, ◌^◌, ◌<◌, ◌≤◌, ◌≡◌, None, refl, sym, ap, ◌∙◌, arith}
use Rattle.std.specs.Prelude.{ℤ, pos, negsuc, neg_ℤ, FitsSigned, int_div}
use Rattle.std.specs.Int.{w64}
use Rattle.std.specs.Int.Signed.{mag}
use Rattle.std.proofs.Math.Nat.{div-le_self}
use Rattle.std.proofs.lemmas.Nat.{div_below}
use Rattle.hip_types.specs.declared.number.Width.{Width}
use Rattle.hip_types.specs.declared.number.Width.TheVariants.{W1, W8, W16, W32, W64}
use Rattle.hip_types.specs.Numbers.{modulus, signed, sign_of, wrapped, wrapped-signed, signed-low}
use Rattle.hip_num.specs.Arithmetic.{division_fault}

negated : (r m : ℕ) → r ≤ m → 0 < m → mag (neg_ℤ (pos r)) < m
negated zero m le some = some
negated (suc r) m le some = omega arith

negatives : (a b : ℕ) → a < 2 ^ 63 → (b ≡ 0 → a ≡ 2 ^ 63 - 1 → ⊥) → suc a / suc b < 2 ^ 63
negatives a zero h apart =
    let less : a ≡ 2 ^ 63 - 1 → ⊥ = apart refl in
    omega arith
negatives a (suc b) h apart = div_below (suc a) (suc (suc b)) (2 ^ 63) (omega arith) (omega arith)

pub quotient_fits : (x y : ℤ) → FitsSigned w64 x → (y ≡ negsuc 0 → x ≡ negsuc (2 ^ 63 - 1) → ⊥) → FitsSigned w64 (int_div x y)
quotient_fits (pos a) (pos b) h apart = record { sfits = omega (arith, div-le_self a b) }
quotient_fits (pos a) (negsuc b) h apart = record { sfits = negated (a / suc b) (2 ^ 63) (omega (arith, div-le_self a (suc b))) (omega arith) }
quotient_fits (negsuc a) (pos b) h apart = record { sfits = negated (suc a / b) (2 ^ 63) (omega (arith, div-le_self (suc a) b)) (omega arith) }
quotient_fits (negsuc a) (negsuc b) h apart =
    record { sfits = negatives a b (omega arith) (λ e f. apart (ap negsuc e) (ap negsuc f)) }

-- An integer that reads as z with a sign is z modulo 2 ^ N.
read_back : (w : Width) (n : ℕ) (z : ℤ) → n < modulus w → signed w n ≡ z → n ≡ wrapped w z
read_back w n z h e = sym (wrapped-signed w n h) ∙ ap (wrapped w) e

no_least : (w : Width) (a : ℕ) → a ≡ 0 → 0 < sign_of w → signed w a ≡ negsuc (2 ^ 63 - 1) → ⊥
no_least w a zero_is some e =
    let low : signed w a ≡ pos a = signed-low w a (omega arith) in
    cc

-- A division that is allowed never divides the least number of 64 bits by -1.
pub no_overflow : (w : Width) (a b : ℕ) → a < modulus w → b < modulus w → None ≡ division_fault w a b → signed w b ≡ negsuc 0 → signed w a ≡ negsuc (2 ^ 63 - 1) → ⊥
no_overflow W1 a b h k allowed e f = no_least W1 a (read_back W1 a _ h f) (omega arith) f
no_overflow W8 a b h k allowed e f = no_least W8 a (read_back W8 a _ h f) (omega arith) f
no_overflow W16 a b h k allowed e f = no_least W16 a (read_back W16 a _ h f) (omega arith) f
no_overflow W32 a b h k allowed e f = no_least W32 a (read_back W32 a _ h f) (omega arith) f
no_overflow W64 a b h k allowed e f =
    let a_is : a ≡ 2 ^ 63 = read_back W64 a _ h f in
    let b_is : b ≡ 2 ^ 64 - 1 = read_back W64 b _ k e in
    let fault = rw (a_is, b_is) at allowed in
    cc
