-- Comparisons of two integers of one width.
use Rattle.std.specs.Prelude.{ℕ, Bool, not, ◌==◌, nat_lt, nat_le, int_lt, int_le}
use Rattle.hip_types.specs.declared.number.Pred.{Pred}
use Rattle.hip_types.specs.declared.number.Pred.TheVariants.{Eq, Ne, Ugt, Uge, Ult, Ule, Sgt, Sge, Slt, Sle}
use Rattle.hip_types.specs.declared.number.Width.{Width}
use Rattle.hip_types.specs.Numbers.{signed}

-- Whether the predicate holds of two integers, which the last four predicates read with a sign.
abbrev pub holds : Pred → Width → ℕ → ℕ → Bool
holds Eq w a b = a == b
holds Ne w a b = not (a == b)
holds Ugt w a b = nat_lt b a
holds Uge w a b = nat_le b a
holds Ult w a b = nat_lt a b
holds Ule w a b = nat_le a b
holds Sgt w a b = int_lt (signed w b) (signed w a)
holds Sge w a b = int_le (signed w b) (signed w a)
holds Slt w a b = int_lt (signed w a) (signed w b)
holds Sle w a b = int_le (signed w a) (signed w b)
