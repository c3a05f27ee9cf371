-- A number masked with all bits of a width is the number modulo 2 ^ N.
use Rattle.std.proofs.Common.{◌≡◌, ℕ, ◌+◌, ◌-◌, ◌%◌, sym, subst, arith}
use Rattle.std.proofs.lemmas.Nat.{and_mask}
use Rattle.std.specs.Int.Bits.{bit_and}
use Rattle.hip_types.specs.Numbers.{modulus}
use Rattle.hip_types.specs.Widths.{bits_of}
use Rattle.hip_types.specs.declared.number.Width.{Width}

pub masked : (w : Width) (n m : ℕ) → m + 1 ≡ modulus w → bit_and n m ≡ n % modulus w
masked w n m all =
    let is : m ≡ modulus w - 1 = omega arith in
    subst (λ (k : ℕ). bit_and n k ≡ n % modulus w) (sym is) (and_mask n (bits_of w))
