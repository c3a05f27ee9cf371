use Rattle.hip_code.specs.Named.{values_passed}
use Rattle.hip_core.specs.Acts.{numbers_of}
use Rattle.hip_core.specs.PointerOperands.{pointers_among}
use Rattle.hip_core.proofs.PassedPointers.{one_passed}
use Rattle.hip_core.proofs.pointers.pointers_passed.Goals as goal

pub passing-preserved : goal.passing-preserved
passing-preserved c =
    let args = c.args.args.now in
    let vs = values_passed (numbers_of c.args.code.now c.args.core.now) c.args.call in
    one_passed args vs c.passing.values c.push_passed.new.values (pointers_among args vs) c.passing.place c.index-args-place.result c.passing-test.true c.index-args-place.is c.passing.invariant c.in_ok-push_passed.ensures
