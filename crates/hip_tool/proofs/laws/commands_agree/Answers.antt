use Rattle.hip_tool.proofs.Agreement.{agree}
use Rattle.hip_tool.proofs.laws.commands_agree.Goals as goal

pub returns : goal.returns
returns c = agree (record { one_union = c.unions_are_one.ensures.one; one_trace = c.each_run_has_one_trace.ensures.one })
