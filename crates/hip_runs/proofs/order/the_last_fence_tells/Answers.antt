use Rattle.hip_runs.proofs.order.the_last_fence_tells.Goals as goal
use Rattle.hip_runs.specs.Laws.LineOrder.{fenced_by_last}

pub returns : goal.returns
returns c = λ P I n x i. fenced_by_last P I n x i
