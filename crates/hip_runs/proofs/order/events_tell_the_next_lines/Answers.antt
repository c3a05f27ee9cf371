use Rattle.hip_runs.proofs.order.events_tell_the_next_lines.Goals as goal
use Rattle.hip_runs.specs.Laws.NextLaws.{next_lines}

pub returns : goal.returns
returns c = λ P I n. next_lines P I n
