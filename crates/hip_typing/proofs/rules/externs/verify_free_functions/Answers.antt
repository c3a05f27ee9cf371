use Rattle.hip_sound.specs.Rules.{free_function}
use Rattle.hip_typing.proofs.Loops.{each_stops, each_goes_on}
use Rattle.hip_typing.proofs.rules.externs.verify_free_functions.Goals as goal

pub returns-in-Err : goal.returns-in-Err
returns-in-Err c =
    each_stops (Unit {0}) free_function c.args.functions.now c.functions.number c.index-functions-number.result c.in-Err.refused c.functions-test.true c.index-functions-number.is c.functions.invariant c.in-Err.ensures

pub functions-preserved : goal.functions-preserved
functions-preserved c =
    each_goes_on free_function c.args.functions.now c.functions.number c.index-functions-number.result c.functions-test.true c.index-functions-number.is c.functions.invariant c.in_default.ensures
