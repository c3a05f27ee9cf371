use Rattle.std.proofs.Common.{ℕ, ◌*◌, ◌+◌, ◌^◌, ◌/◌, ◌-◌, ◌≡◌, ◌≤◌, ◌<◌, get_or, take, ◌∙◌, subst, arith}
use Rattle.std.specs.Char.{digit_value}
use Rattle.std.specs.Str.Parse.{digits_value}
use Rattle.std.proofs.lemmas.Int.Digits.{digits_value_more, digits_more}
use Rattle.hip_num.proofs.Numerals.{digits_value-take-le, digit_at, past}
use Rattle.hip_num.proofs.read.read_digits.Goals as goal

pub returns-in-None : goal.returns-in-None
returns-in-None c = λ n.
    c.in-None.ensures.value (rw c.from.ensures (digit_at c.args.base c.args.text.now c.loop-byte.byte-index n.0.1 c.loop-byte-test.true))

pub returns-then-value-most : goal.returns-then-value-most
returns-then-value-most c = λ n.
    let i = c.loop-byte.byte-index in
    let text = c.args.text.now in
    let next = digits_value_more c.args.base text i c.loop-byte-test.true in
    let below = digits_value-take-le c.args.base (i + 1) text (omega arith) in
    let great = subst (λ (b : ℕ). (2 ^ 64 - 1) / b < c.loop-byte.value) c.from-most.ensures c.if-value-most.true in
    let long = past c.loop-byte.value c.args.base (digit_value (get_or text i 0)) (omega arith) great in
    let long : 2 ^ 64 ≤ digits_value c.args.base (take (i + 1) text) = rw (next, ← c.loop-byte.invariant.value) long in
    omega (arith, below, n.1)

pub returns-in-None-checked_add : goal.returns-in-None-checked_add
returns-in-None-checked_add c = λ n.
    let i = c.loop-byte.byte-index in
    let text = c.args.text.now in
    let below = digits_value-take-le c.args.base (i + 1) text (omega arith) in
    let next = digits_value_more c.args.base text i c.loop-byte-test.true in
    let digit : c.in-Some.digit ≡ digit_value c.from.result = c.in-Some.ensures.value.1 in
    let sum : c.loop-byte.value * c.from-in-loop-byte.result + c.from-in-loop-byte-2.result ≡ digits_value c.args.base (take (i + 1) text) = cc in
    c.in-None-checked_add.ensures (omega (arith, below, n.1, sum))

pub loop-byte-preserved : goal.loop-byte-preserved
loop-byte-preserved c =
    let i = c.loop-byte.byte-index in
    let text = c.args.text.now in
    let next = digits_value_more c.args.base text i c.loop-byte-test.true in
    let digit : c.in-Some.digit ≡ digit_value c.from.result = c.in-Some.ensures.value.1 in
    let sum : c.loop-byte.value * c.from-in-loop-byte.result + c.from-in-loop-byte-2.result ≡ digits_value c.args.base (take (i + 1) text) = cc in
    record {
      digits = digits_more c.args.base text i c.loop-byte-test.true c.loop-byte.invariant.digits (rw (← c.from.ensures) c.in-Some.ensures.value.0);
      value = c.in-Some-checked_add.ensures.1 ∙ sum;
    }
