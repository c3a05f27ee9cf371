use Rattle.std.proofs.Common.{map}
use Rattle.hip_sound.specs.Registers.{arg_uses, used_registers}
use Rattle.hip_sound.specs.Rules.{use_at}
use Rattle.hip_typing.proofs.UseLists.{carries_whole, args_on, args_refused, args_end}
use Rattle.hip_typing.proofs.assigned.verify_args.Goals as goal

pub each-init : goal.each-init
each-init c = carries_whole c.args.body.now.function.now (map (use_at c.args.place c.args.block c.args.point) (used_registers (arg_uses c.args.args.now)))

pub each-preserved : goal.each-preserved
each-preserved c =
    args_on c.args.body.now.function.now _ (use_at c.args.place c.args.block c.args.point) c.args.args.now c.each.index c.index-args-index.result c.each-test.true c.index-args-index.is c.in_default.ensures c.each.invariant

pub returns-in-Err : goal.returns-in-Err
returns-in-Err c =
    args_refused c.args.body.now.function.now _ (use_at c.args.place c.args.block c.args.point) c.args.args.now c.each.index c.index-args-index.result c.in-Err.refused c.each-test.true c.index-args-index.is c.in-Err.ensures c.each.invariant

pub returns : goal.returns
returns c = args_end c.args.body.now.function.now _ (use_at c.args.place c.args.block c.args.point) c.args.args.now c.each.index c.each-test.false c.each.invariant
