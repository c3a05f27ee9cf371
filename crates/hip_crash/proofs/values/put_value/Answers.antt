use Rattle.std.proofs.Common.{arith, ◌+◌, ◌∙◌, sym, min, ap}
use Rattle.hip_crash.proofs.Bytes.{written, same_range}
use Rattle.hip_crash.proofs.values.put_value.Goals as goal

pub returns : goal.returns
returns c = written c.args.stored c.args.start c.args.bytes.now c.loop-at.bytes (c.loop-at.invariant.long ∙ sym c.told-bytes) c.max-from.result c.loop-at.at c.max-from.ensures
    (λ i lt. same_range c.args.stored.offset c.args.stored.size c.args.start (c.args.start + i) c.max-from.result c.min-end.result c.loop-at.at 18446744073709551615 c.max-from.ensures (c.min-end.ensures ∙ ap (λ n. min n (c.args.start + 64)) c.saturating_add.ensures) (omega (arith, c.requires)) c.loop-at.auto.at c.loop-at-test.false c.loop-at.invariant.most (omega arith) (omega (arith, lt, c.told-bytes)))
    (λ i lt. c.loop-at.invariant.written i (omega (arith, lt, c.told-bytes)))
