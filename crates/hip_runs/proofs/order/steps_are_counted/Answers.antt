use Rattle.hip_runs.specs.Laws.NextLaws.{counts-next, rests-ended}
use Rattle.hip_runs.proofs.order.steps_are_counted.Goals as goal

pub returns-clause-counted : goal.returns-clause-counted
returns-clause-counted c = counts-next

pub returns-clause-rests : goal.returns-clause-rests
returns-clause-rests c = rests-ended
