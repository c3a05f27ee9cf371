use Rattle.hip_sound.specs.Rules.{use_at}
use Rattle.hip_typing.proofs.UseLists.{second_refused, third_refused, rest_answered}
use Rattle.hip_typing.proofs.assigned.verify_uses.Goals as goal

pub returns-in-Err-verify_one : goal.returns-in-Err-verify_one
returns-in-Err-verify_one c = second_refused c.args.body.now.function.now (use_at c.args.place c.args.block c.args.point) c.args.uses.now c.in-Err-verify_one.refused c.in_default.ensures c.in-Err-verify_one.ensures

pub returns-in-Err-verify_one-2 : goal.returns-in-Err-verify_one-2
returns-in-Err-verify_one-2 c =
    third_refused c.args.body.now.function.now (use_at c.args.place c.args.block c.args.point) c.args.uses.now c.in-Err-verify_one-2.refused c.in_default.ensures c.in_default-verify_one.ensures c.in-Err-verify_one-2.ensures

pub returns : goal.returns
returns c =
    rest_answered c.args.body.now.function.now (use_at c.args.place c.args.block c.args.point) c.args.uses.now c.verify_args.result c.in_default.ensures c.in_default-verify_one.ensures c.in_default-verify_one-2.ensures c.verify_args.ensures
