use Rattle.hip_demo.proofs.OneDemo.{one_demo}
use Rattle.hip_demo.proofs.laws.demos_are_one.Goals as goal

pub returns : goal.returns
returns c = one_demo c.findings_are_one.ensures.one c.each_run_has_one_trace.ensures.one
