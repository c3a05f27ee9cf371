-- Laws of widths: two widths with the same number of bits are equal.
use Rattle.std.proofs.Common.{◌≡◌, true, false, refl}
use Rattle.std.specs.Prelude.{◌==◌}
use Rattle.hip_types.specs.Widths.{bits_of}
use Rattle.hip_types.specs.declared.number.Width.{Width}
use Rattle.hip_types.specs.declared.number.Width.TheVariants.{W1, W8, W16, W32, W64}

pub own_width : (w : Width) → (bits_of w == bits_of w) ≡ true
own_width W1 = refl
own_width W8 = refl
own_width W16 = refl
own_width W32 = refl
own_width W64 = refl

pub equal_widths : (v w : Width) → (bits_of v == bits_of w) ≡ true → v ≡ w
equal_widths W1 W1 e = refl
equal_widths W8 W8 e = refl
equal_widths W16 W16 e = refl
equal_widths W32 W32 e = refl
equal_widths W64 W64 e = refl
equal_widths W1 W8 e = absurd cc
equal_widths W1 W16 e = absurd cc
equal_widths W1 W32 e = absurd cc
equal_widths W1 W64 e = absurd cc
equal_widths W8 W1 e = absurd cc
equal_widths W8 W16 e = absurd cc
equal_widths W8 W32 e = absurd cc
equal_widths W8 W64 e = absurd cc
equal_widths W16 W1 e = absurd cc
equal_widths W16 W8 e = absurd cc
equal_widths W16 W32 e = absurd cc
equal_widths W16 W64 e = absurd cc
equal_widths W32 W1 e = absurd cc
equal_widths W32 W8 e = absurd cc
equal_widths W32 W16 e = absurd cc
equal_widths W32 W64 e = absurd cc
equal_widths W64 W1 e = absurd cc
equal_widths W64 W8 e = absurd cc
equal_widths W64 W16 e = absurd cc
equal_widths W64 W32 e = absurd cc
