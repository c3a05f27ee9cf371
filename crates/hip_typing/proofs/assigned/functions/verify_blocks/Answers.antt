use Rattle.hip_sound.specs.Rules.{block_register_uses}
use Rattle.hip_typing.proofs.UseLists.{carries_whole, parts_on, parts_refused, parts_end}
use Rattle.hip_typing.proofs.assigned.functions.verify_blocks.Goals as goal

pub each-init : goal.each-init
each-init c = rw c.as_slice-blocks.ensures (carries_whole c.args.body.now.function.now _)

pub each-preserved : goal.each-preserved
each-preserved c =
    parts_on c.args.body.now.function.now _ (block_register_uses c.args.body.now.function.now.blocks c.args.function) c.as_slice-blocks.result.now c.each.number c.index-blocks-number.result c.each-test.true c.index-blocks-number.is c.in_default.ensures c.each.invariant

pub returns-in-Err : goal.returns-in-Err
returns-in-Err c =
    parts_refused c.args.body.now.function.now _ (block_register_uses c.args.body.now.function.now.blocks c.args.function) c.as_slice-blocks.result.now c.each.number c.index-blocks-number.result c.in-Err.refused c.each-test.true c.index-blocks-number.is c.in-Err.ensures c.each.invariant

pub returns : goal.returns
returns c = parts_end c.args.body.now.function.now _ (block_register_uses c.args.body.now.function.now.blocks c.args.function) c.as_slice-blocks.result.now c.each.number c.each-test.false c.each.invariant
