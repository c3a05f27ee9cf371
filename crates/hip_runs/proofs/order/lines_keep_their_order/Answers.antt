use Rattle.hip_runs.proofs.order.lines_keep_their_order.Goals as goal
use Rattle.hip_runs.specs.Laws.LineOrder.{has_order}

pub returns : goal.returns
returns c = λ P I n. has_order P I n
