use Rattle.hip_runs.specs.Laws.DurableLaws.{durable_stays}
use Rattle.hip_runs.proofs.history.durable_stores_stay_durable.Goals as goal

pub returns : goal.returns
returns c = durable_stays
