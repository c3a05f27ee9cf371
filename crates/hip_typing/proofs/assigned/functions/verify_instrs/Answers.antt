use Rattle.hip_sound.specs.Rules.{instr_register_uses}
use Rattle.hip_typing.proofs.UseLists.{carries_whole, parts_on, parts_refused, parts_end}
use Rattle.hip_typing.proofs.assigned.functions.verify_instrs.Goals as goal

pub each-init : goal.each-init
each-init c = rw c.as_slice-items.ensures (carries_whole c.args.body.now.function.now _)

pub each-preserved : goal.each-preserved
each-preserved c =
    parts_on c.args.body.now.function.now _ (instr_register_uses c.args.function c.args.block) c.as_slice-items.result.now c.each.index c.index-items-index.result c.each-test.true c.index-items-index.is c.in_default.ensures c.each.invariant

pub returns-in-Err : goal.returns-in-Err
returns-in-Err c =
    parts_refused c.args.body.now.function.now _ (instr_register_uses c.args.function c.args.block) c.as_slice-items.result.now c.each.index c.index-items-index.result c.in-Err.refused c.each-test.true c.index-items-index.is c.in-Err.ensures c.each.invariant

pub returns : goal.returns
returns c = parts_end c.args.body.now.function.now _ (instr_register_uses c.args.function c.args.block) c.as_slice-items.result.now c.each.index c.each-test.false c.each.invariant
