-- Changes of width.
use Rattle.std.specs.Prelude.{Bool, if◌then◌else◌}
use Rattle.hip_types.specs.declared.number.Width.{Width}
use Rattle.hip_types.specs.declared.number.Bits.{Bits}
use Rattle.hip_types.specs.Numbers.{bits, signed, wrapped}

-- The same number at a greater width. If `with_sign` is true, the integer is read with a sign.
abbrev pub widened : Bits → Width → Bool → Bits
widened a to with_sign = bits to (if with_sign then wrapped to (signed a.width a.value) else a.value)

-- The number modulo 2 ^ N, where N is the smaller width.
abbrev pub narrowed : Bits → Width → Bits
narrowed a to = bits to a.value
