-- The types whose values a register holds.
use Rattle.hip_types.specs.declared.number.Width.{Width}
use Rattle.hip_types.specs.declared.number.Width.TheVariants.{W64}
use Rattle.hip_types.specs.declared.number.Scalar.{Scalar}
use Rattle.hip_types.specs.declared.number.Scalar.TheVariants.{Int, Ptr}

-- The width of the number that a value of the type is; a pointer is a number of 64 bits.
abbrev pub width_of : Scalar → Width
width_of (Int w) = w
width_of Ptr = W64
