use Rattle.hip_sound.specs.Rules.{function_required}
use Rattle.hip_typing.proofs.Loops.{each_stops, each_goes_on}
use Rattle.hip_typing.proofs.places.verify_functions.Goals as goal

pub returns-in-Err : goal.returns-in-Err
returns-in-Err c =
    each_stops (Unit {0}) (function_required c.args.program.now.program.now) c.args.functions.now c.functions.number c.index-functions-number.result c.in-Err.refused c.functions-test.true c.index-functions-number.is c.functions.invariant c.in-Err.ensures

pub functions-preserved : goal.functions-preserved
functions-preserved c =
    each_goes_on (function_required c.args.program.now.program.now) c.args.functions.now c.functions.number c.index-functions-number.result c.functions-test.true c.index-functions-number.is c.functions.invariant c.in_default.ensures
