use Rattle.std.proofs.Common.{refl, arith}
use Rattle.hip_trace.proofs.FirstLines.{digit_next, digits_first, few_digits}
use Rattle.hip_trace.proofs.line.first_number.Goals as goal

pub overflow_mul-number : goal.overflow_mul-number
overflow_mul-number c =
    let k = c.digits.invariant in
    let small = few_digits c.args.bytes.now c.digits.at 15 c.digits.number (omega (arith, c.digits-test.true)) k.within k.all k.value in
    omega (arith, small)

pub overflow_add-number : goal.overflow_add-number
overflow_add-number c =
    let k = c.digits.invariant in
    let small = few_digits c.args.bytes.now c.digits.at 15 c.digits.number (omega (arith, c.digits-test.true)) k.within k.all k.value in
    omega (arith, small, c.in-Some.ensures.small)

pub digits-preserved : goal.digits-preserved
digits-preserved c =
    let k = c.digits.invariant in
    let next = digit_next c.args.bytes.now c.digits.at c.digits.number c.in-Some.digit _ (omega (arith, c.digits-test.true, c.if-bytes-lt16.false)) k.all k.value c.in-Some.ensures.value refl c.in-Some.ensures.small in
    record {
      within = omega (arith, c.digits-test.true, c.if-bytes-lt16.false);
      few = omega (arith, c.digits-test.true);
      all = next.0;
      value = next.1;
    }

pub returns : goal.returns
returns c =
    let k = c.digits.invariant in
    let fits = few_digits c.args.bytes.now c.digits.at 16 c.digits.number k.few k.within k.all k.value in
    digits_first c.args.bytes.now c.digits.at c.digits.number k.within (omega (arith, c.if-at-eq0.false)) k.all k.value (omega (arith, fits))
