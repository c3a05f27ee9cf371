use Rattle.std.proofs.Common.{◌+◌, ◌-◌, ◌/◌, ◌%◌, ◌^◌, ◌≡◌, ◌<◌, ◌≤◌, ℕ, drop, subst, sym, arith, ap, false, ◌∙◌}
use Rattle.std.specs.Fmt.{digit_glyph}
use Rattle.hip_num.proofs.HexDigits.{has_place}
use Rattle.hip_trace.proofs.LineDigits.{has_places, last_before, last_pair, onto_before, pair_before, two_less}
use Rattle.hip_trace.proofs.write.digits_before.Goals as goal

pub pairs-init : goal.pairs-init
pairs-init c =
    let end = c.args.end in
    let k : end - 1 + 16 - end ≡ 15 = omega (arith, c.requires.room) in
    let i : end - 1 + 1 ≡ end = omega (arith, c.requires.room) in
    record {
      start = omega (arith, c.requires.room);
      low = omega (arith, c.requires.room);
      room = subst (λ (j : ℕ). c.args.number < 16 ^ (j + 1)) (sym k) (omega arith);
      text = rw (k, i) (onto_before c.args.number (drop end c.args.bytes.now) (omega arith));
    }

pub pairs-preserved : goal.pairs-preserved
pairs-preserved c =
    let i = c.pairs.invariant in
    let at = c.pairs.at in
    let end = c.args.end in
    let some : 2 ≤ at + 16 - end = has_places (at + 16 - end) c.pairs.rest c.pairs-test.true i.room in
    let first : 2 ≤ at = omega (arith, some, c.requires.room, i.low) in
    let fewer : at - 2 + 16 - end ≡ at + 16 - end - 2 = omega (arith, some, first) in
    record {
      start = omega (arith, i.start);
      low = omega (arith, some, first);
      room = subst (λ (j : ℕ). c.pairs.rest / 256 < 16 ^ (j + 1)) (sym fewer) (two_less (at + 16 - end) c.pairs.rest some i.room);
      text = rw fewer (pair_before (at + 16 - end) at c.pairs.rest c.low_digit.result c.high_digit.result c.pairs.bytes _ c.pairs-test.true some first (omega arith) c.low_digit.ensures c.high_digit.ensures i.text);
    }

pub overflow_sub-at-in-pairs : goal.overflow_sub-at-in-pairs
overflow_sub-at-in-pairs c =
    let i = c.pairs.invariant in
    let some = has_places (c.pairs.at + 16 - c.args.end) c.pairs.rest c.pairs-test.true i.room in
    omega (arith, some, c.requires.room, i.low)

pub returns-then-rest-lt16-clause-text : goal.returns-then-rest-lt16-clause-text
returns-then-rest-lt16-clause-text c =
    let at = c.pairs.at in
    let rest = c.pairs.rest in
    let whole : rest % 16 ≡ rest = omega (arith, c.if-rest-lt16.true) in
    last_before (at + 16 - c.args.end) at rest c.low_digit-2.result c.pairs.bytes _ c.if-rest-lt16.true (omega arith) (c.low_digit-2.ensures ∙ ap (digit_glyph false) whole) c.pairs.invariant.text

pub returns-clause-text : goal.returns-clause-text
returns-clause-text c =
    let i = c.pairs.invariant in
    let at = c.pairs.at in
    let rest = c.pairs.rest in
    let more : 16 ≤ rest = omega (arith, c.if-rest-lt16.false) in
    let less : rest < 256 = omega (arith, c.pairs-test.false) in
    let some : 1 ≤ at + 16 - c.args.end = has_place (at + 16 - c.args.end) rest more i.room in
    let first : 1 ≤ at = omega (arith, some, c.requires.room, i.low) in
    last_pair (at + 16 - c.args.end) at rest c.low_digit-2.result c.high_digit-2.result c.pairs.bytes _ more less some first (omega arith) c.low_digit-2.ensures c.high_digit-2.ensures i.text

pub returns-clause-few : goal.returns-clause-few
returns-clause-few c =
    let i = c.pairs.invariant in
    let more : 16 ≤ c.pairs.rest = omega (arith, c.if-rest-lt16.false) in
    let some : 1 ≤ c.pairs.at + 16 - c.args.end = has_place (c.pairs.at + 16 - c.args.end) c.pairs.rest more i.room in
    omega (arith, some, i.low, c.requires.room)
