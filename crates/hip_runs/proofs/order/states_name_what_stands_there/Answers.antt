use Rattle.hip_runs.proofs.order.states_name_what_stands_there.Goals as goal
use Rattle.hip_runs.specs.Laws.SiteLaws.{has_sites}

pub returns : goal.returns
returns c = λ P I n. has_sites P I n
