use Rattle.hip_sound.specs.Rules.{declared}
use Rattle.hip_typing.proofs.Loops.{each_stops, each_goes_on}
use Rattle.hip_typing.proofs.rules.externs.verify_declarations.Goals as goal

pub returns-in-Err : goal.returns-in-Err
returns-in-Err c =
    each_stops (Unit {0}) declared c.args.externs.now c.externs.number c.index-externs-number.result c.in-Err.refused c.externs-test.true c.index-externs-number.is c.externs.invariant c.in-Err.ensures

pub externs-preserved : goal.externs-preserved
externs-preserved c =
    each_goes_on declared c.args.externs.now c.externs.number c.index-externs-number.result c.externs-test.true c.index-externs-number.is c.externs.invariant c.in_default.ensures
