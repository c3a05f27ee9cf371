-- The ops that arithmetic, comparisons and changes of type become.
use Rattle.std.specs.Prelude.{Bool, true, false}
use Rattle.hip_types.specs.declared.number.BinaryOp.{BinaryOp}
use Rattle.hip_types.specs.declared.number.BinaryOp.TheVariants as binaries
use Rattle.hip_types.specs.declared.number.CastOp.{CastOp}
use Rattle.hip_types.specs.declared.number.CastOp.TheVariants as casts
use Rattle.hip_types.specs.declared.number.Pred.{Pred}
use Rattle.hip_types.specs.declared.number.Pred.TheVariants as preds
use Rattle.hip_types.specs.declared.number.Width.{Width}
use Rattle.hip_code.specs.declared.op.BitOp.TheVariants as bit_ops
use Rattle.hip_code.specs.declared.op.Comparison.{Comparison}
use Rattle.hip_code.specs.declared.op.Comparison.TheVariants.{Equal, Less, SignedLess}
use Rattle.hip_code.specs.declared.op.IntegerOp.{IntegerOp}
use Rattle.hip_code.specs.declared.op.IntegerOp.TheVariants as integers
use Rattle.hip_code.specs.declared.op.OpOperand.{OpOperand}
use Rattle.hip_code.specs.declared.op.Other.TheVariants as others
use Rattle.hip_code.specs.declared.op.Rest.{Rest}
use Rattle.hip_code.specs.declared.op.Rest.TheVariants.{Compare, Cast, Other}
use Rattle.hip_code.specs.declared.op.ShiftOp.TheVariants as shifts
use Rattle.hip_code.specs.declared.op.SumOp.TheVariants as sums
use Rattle.hip_code.specs.declared.op.Value.{Value}
use Rattle.hip_code.specs.declared.op.Value.TheVariants as values

-- The op that gives 1 where a test of two integers of a width holds or, if it is negated, where it does not.
abbrev pub compares : Comparison → Bool → Width → OpOperand → OpOperand → Rest
compares test negated w a b = Compare test negated w a b

-- The op of a comparison. "Greater" is "less" with the operands exchanged, "at least" is "less" negated, and "at most"
-- is "less" with the operands exchanged and negated.
abbrev pub compare_op : Pred → Width → OpOperand → OpOperand → Rest
compare_op preds.Eq w a b = Compare Equal false w a b
compare_op preds.Ne w a b = Compare Equal true w a b
compare_op preds.Ugt w a b = Compare Less false w b a
compare_op preds.Uge w a b = Compare Less true w a b
compare_op preds.Ult w a b = Compare Less false w a b
compare_op preds.Ule w a b = Compare Less true w b a
compare_op preds.Sgt w a b = Compare SignedLess false w b a
compare_op preds.Sge w a b = Compare SignedLess true w a b
compare_op preds.Slt w a b = Compare SignedLess false w a b
compare_op preds.Sle w a b = Compare SignedLess true w b a

-- The op of a change of type; only `sext` uses the sign.
abbrev pub cast_op : CastOp → Width → Width → OpOperand → Rest
cast_op casts.Sext from to a = Cast true from to a
cast_op casts.Zext from to a = Cast false from to a
cast_op casts.Trunc from to a = Cast false from to a
cast_op casts.Ptrtoint from to a = Cast false from to a
cast_op casts.Inttoptr from to a = Cast false from to a

-- The op of an operation that is no division, on two integers of a width.
abbrev pub integer_value : IntegerOp → Width → OpOperand → OpOperand → Value
integer_value op w a b = values.Integer op w a b

-- The op of a division, with a sign or without one, for the rest or for the quotient.
abbrev pub division_value : Bool → Bool → Width → OpOperand → OpOperand → Value
division_value signed rest w a b = values.Rest (Other (others.Divide (record { signed = signed; rest = rest }) w a b))

-- The op of an operation on two integers; divisions have an op of their own.
abbrev pub binary_value : BinaryOp → Width → OpOperand → OpOperand → Value
binary_value binaries.Add w a b = integer_value (integers.Sum sums.Add) w a b
binary_value binaries.Sub w a b = integer_value (integers.Sum sums.Sub) w a b
binary_value binaries.Mul w a b = integer_value (integers.Sum sums.Mul) w a b
binary_value binaries.And w a b = integer_value (integers.Bit bit_ops.And) w a b
binary_value binaries.Or w a b = integer_value (integers.Bit bit_ops.Or) w a b
binary_value binaries.Xor w a b = integer_value (integers.Bit bit_ops.Xor) w a b
binary_value binaries.Shl w a b = integer_value (integers.Shift shifts.Shl) w a b
binary_value binaries.Lshr w a b = integer_value (integers.Shift shifts.Lshr) w a b
binary_value binaries.Ashr w a b = integer_value (integers.Shift shifts.Ashr) w a b
binary_value binaries.Udiv w a b = division_value false false w a b
binary_value binaries.Sdiv w a b = division_value true false w a b
binary_value binaries.Urem w a b = division_value false true w a b
binary_value binaries.Srem w a b = division_value true true w a b
