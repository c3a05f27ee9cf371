use Rattle.hip_runs.proofs.order.a_step_moves_the_top.Goals as goal
use Rattle.hip_runs.specs.Laws.CallLaws.{run_moves}

pub returns : goal.returns
returns c = λ P I n. run_moves P I n
