use Rattle.hip_runs.proofs.order.calls_were_made_in_order.Goals as goal
use Rattle.hip_runs.specs.Laws.CallLaws.{has_calls}

pub returns : goal.returns
returns c = λ P I n. has_calls P I n
