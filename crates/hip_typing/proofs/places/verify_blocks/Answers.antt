use Rattle.hip_sound.specs.Rules.{block_required}
use Rattle.hip_typing.specs.Seen.TablesSeen.{scope_in}
use Rattle.hip_typing.proofs.Loops.{each_stops, each_goes_on}
use Rattle.hip_typing.proofs.places.verify_blocks.Goals as goal

pub returns-in-Err : goal.returns-in-Err
returns-in-Err c =
    each_stops (Unit {0}) (block_required (scope_in c.args.program.now c.args.function.now) c.args.number) c.args.blocks.now c.each_block.block c.index-blocks-block.result c.in-Err.refused c.each_block-test.true c.index-blocks-block.is c.each_block.invariant c.in-Err.ensures

pub each_block-preserved : goal.each_block-preserved
each_block-preserved c =
    each_goes_on (block_required (scope_in c.args.program.now c.args.function.now) c.args.number) c.args.blocks.now c.each_block.block c.index-blocks-block.result c.each_block-test.true c.index-blocks-block.is c.each_block.invariant c.in_default.ensures
