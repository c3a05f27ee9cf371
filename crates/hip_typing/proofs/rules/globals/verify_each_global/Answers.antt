use Rattle.hip_sound.specs.Rules.{global_required}
use Rattle.hip_typing.proofs.Loops.{each_stops, each_goes_on}
use Rattle.hip_typing.proofs.rules.globals.verify_each_global.Goals as goal

pub returns-in-Err : goal.returns-in-Err
returns-in-Err c =
    each_stops (Unit {0}) (global_required c.args.known.now) c.args.globals.now c.globals.number c.index-globals-number.result c.in-Err.refused c.globals-test.true c.index-globals-number.is c.globals.invariant c.in-Err.ensures

pub globals-preserved : goal.globals-preserved
globals-preserved c =
    each_goes_on (global_required c.args.known.now) c.args.globals.now c.globals.number c.index-globals-number.result c.globals-test.true c.index-globals-number.is c.globals.invariant c.in_default.ensures
