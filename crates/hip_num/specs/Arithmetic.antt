-- What the operations on two integers of N bits give: a value modulo 2 ^ N, or a trap.
use Rattle.std.specs.Prelude.{ℕ, ◌+◌, ◌-◌, ◌*◌, ◌/◌, ◌%◌, ◌^◌, ◌==◌, ◌&&◌, nat_lt, if◌then◌else◌, Option, Some, None, Result, Ok, Err, int_div, int_rem, bit_and, bit_or, bit_xor}
use Rattle.std.specs.Int.{int_shr}
use Rattle.hip_types.specs.declared.number.BinaryOp.{BinaryOp}
use Rattle.hip_types.specs.declared.number.BinaryOp.TheVariants.{Add, Sub, Mul, Udiv, Sdiv, Urem, Srem, And, Or, Xor, Shl, Lshr, Ashr}
use Rattle.hip_types.specs.declared.number.Width.{Width}
use Rattle.hip_types.specs.declared.number.Bits.{Bits}
use Rattle.hip_types.specs.Widths.{bits_of}
use Rattle.hip_types.specs.Numbers.{bits, modulus, sign_of, signed, wrapped}
use Rattle.hip_num.specs.declared.arithmetic.NumTrap.{NumTrap}
use Rattle.hip_num.specs.declared.arithmetic.NumTrap.TheVariants.{DivZero, DivOverflow, ShiftRange}

-- The value of a division without a sign, or a trap if the divisor is 0.
abbrev pub divided : ℕ → ℕ → Result ℕ NumTrap
divided divisor value = if divisor == 0 then Err DivZero else Ok value

-- Why a division with a sign traps: a divisor of 0, or -2 ^ (N - 1) by -1, whose quotient is no integer of N bits.
abbrev pub division_fault : Width → ℕ → ℕ → Option NumTrap
division_fault w a b =
    if b == 0 then Some DivZero else (if a == sign_of w && b == modulus w - 1 then Some DivOverflow else None)

-- The trap if there is one, else the value.
abbrev pub unless : Option NumTrap → ℕ → Result ℕ NumTrap
unless (Some trap) value = Err trap
unless None value = Ok value

-- The value of a shift, or a trap if the amount is not less than the width.
abbrev pub shifted : Width → ℕ → ℕ → Result ℕ NumTrap
shifted w amount value = if nat_lt amount (bits_of w) then Ok value else Err ShiftRange

-- The value before it is taken modulo 2 ^ N. Quotients with a sign are rounded toward zero, and the remainder has the
-- dividend's sign. `lshr` shifts zeros in, and `ashr` copies of the sign.
abbrev pub value_of : BinaryOp → Width → ℕ → ℕ → Result ℕ NumTrap
value_of Add w a b = Ok (a + b)
value_of Sub w a b = Ok (a + modulus w - b)
value_of Mul w a b = Ok (a * b)
value_of Udiv w a b = divided b (a / b)
value_of Sdiv w a b = unless (division_fault w a b) (wrapped w (int_div (signed w a) (signed w b)))
value_of Urem w a b = divided b (a % b)
value_of Srem w a b = unless (division_fault w a b) (wrapped w (int_rem (signed w a) (signed w b)))
value_of And w a b = Ok (bit_and a b)
value_of Or w a b = Ok (bit_or a b)
value_of Xor w a b = Ok (bit_xor a b)
value_of Shl w a b = shifted w b (a * 2 ^ b)
value_of Lshr w a b = shifted w b (a / 2 ^ b)
value_of Ashr w a b = shifted w b (wrapped w (int_shr (signed w a) b))

-- The value as an integer of N bits, taken modulo 2 ^ N; a trap stays.
abbrev pub modulo : Width → Result ℕ NumTrap → Result Bits NumTrap
modulo w (Ok n) = Ok (bits w n)
modulo w (Err trap) = Err trap

-- The result of an operation on two integers of the width of the first.
abbrev pub binary_of : BinaryOp → Bits → Bits → Result Bits NumTrap
binary_of op a b = modulo a.width (value_of op a.width a.value b.value)
