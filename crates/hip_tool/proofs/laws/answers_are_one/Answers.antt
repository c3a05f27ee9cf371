use Rattle.hip_tool.proofs.OneAnswer.{one_answer}
use Rattle.hip_tool.proofs.laws.answers_are_one.Goals as goal

pub returns : goal.returns
returns c =
    one_answer c.runs_are_one.ensures c.records_are_one.ensures c.answers_are_one.ensures.check
    c.answers_are_one.ensures.repair c.answers_are_one.ensures.rerun c.thins_are_one.ensures.one
    c.crashes_are_one.ensures c.many_are_one.ensures c.demos_are_one.ensures
