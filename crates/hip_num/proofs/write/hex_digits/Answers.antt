use Rattle.std.proofs.Common.{◌≡◌, ◌≤◌, [], drop, arith}
use Rattle.std.proofs.Math.ListN.{drop_of_length-le}
use Rattle.hip_num.proofs.HexDigits.{onto_all, has_place, one_less, next_digit, last_digit}
use Rattle.hip_num.proofs.write.hex_digits.Goals as goal

pub loop-rest-init : goal.loop-rest-init
loop-rest-init c =
    let none : drop 16 c.args.text.now ≡ [] = drop_of_length-le c.args.text.now {i = 16} (omega arith) in
    record { start = omega arith; room = omega arith; text = rw none (onto_all c.args.v) }

pub loop-rest-preserved : goal.loop-rest-preserved
loop-rest-preserved c =
    let i = c.loop-rest.invariant in
    let some : 1 ≤ c.loop-rest.at = has_place c.loop-rest.at c.loop-rest.rest c.loop-rest-test.true i.room in
    record {
      start = omega arith;
      room = one_less c.loop-rest.at c.loop-rest.rest some i.room;
      text = next_digit c.loop-rest.at c.loop-rest.rest c.hex_digit.result c.loop-rest.text _ c.loop-rest-test.true some (omega arith) c.hex_digit.ensures i.text;
    }

pub returns-clause-text : goal.returns-clause-text
returns-clause-text c =
    last_digit c.loop-rest.at c.loop-rest.rest c.hex_digit-2.result c.loop-rest.text _ c.loop-rest-test.false (omega arith) c.hex_digit-2.ensures c.loop-rest.invariant.text
