use Rattle.std.proofs.Common.{◌^◌, arith}
use Rattle.hip_parse.proofs.Digits.{too_large, all_read}
use Rattle.hip_parse.proofs.numbers.decimal.Goals as goal

pub returns : goal.returns
returns c = all_read (2 ^ 64) c.loop-d.n c.loop-d.d-index _ c.args.digits.now c.loop-d-test.false (omega arith) c.loop-d.invariant

pub returns-then-n-v : goal.returns-then-n-v
returns-then-n-v c = too_large (2 ^ 64) c.loop-d.n c.loop-d.d-index _ c.args.digits.now c.loop-d-test.true (omega (arith, c.if-n-v.true)) c.loop-d.invariant
