use Rattle.hip_globals.specs.Constants.{joined}
use Rattle.hip_sound.specs.Names.{numbered}
use Rattle.hip_sound.specs.Rules.{instr_register_uses, end_register_uses}
use Rattle.hip_typing.proofs.UseLists.{phi_uses_at, first_part_refused, second_part_refused, last_part_answered}
use Rattle.hip_typing.proofs.assigned.functions.verify_block.Goals as goal

pub returns-in-Err : goal.returns-in-Err
returns-in-Err c =
    let fn = c.args.body.now.function.now in
    let block = c.args.block.now in
    first_part_refused fn (joined (numbered (phi_uses_at fn c.args.function c.args.number) block.phis)) (joined (numbered (instr_register_uses c.args.function c.args.number) block.body)) (end_register_uses c.args.function c.args.number block.end)
    c.in-Err.refused c.in-Err.ensures

pub returns-in-Err-verify_instrs : goal.returns-in-Err-verify_instrs
returns-in-Err-verify_instrs c =
    let fn = c.args.body.now.function.now in
    let block = c.args.block.now in
    second_part_refused fn (joined (numbered (phi_uses_at fn c.args.function c.args.number) block.phis)) (joined (numbered (instr_register_uses c.args.function c.args.number) block.body)) (end_register_uses c.args.function c.args.number block.end)
    c.in-Err-verify_instrs.refused c.in_default.ensures c.in-Err-verify_instrs.ensures

pub returns : goal.returns
returns c =
    let fn = c.args.body.now.function.now in
    let block = c.args.block.now in
    last_part_answered fn (joined (numbered (phi_uses_at fn c.args.function c.args.number) block.phis)) (joined (numbered (instr_register_uses c.args.function c.args.number) block.body)) (end_register_uses c.args.function c.args.number block.end)
    c.verify_end.result c.in_default.ensures c.in_default-verify_instrs.ensures c.verify_end.ensures
