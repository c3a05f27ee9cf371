use Rattle.hip_runs.specs.Laws.OrderLaws.{durable_stated, stated_durable}
use Rattle.hip_runs.proofs.history.durable_stores_were_flushed_then_fenced.Goals as goal

pub returns : goal.returns
returns c = record { came = durable_stated; durable = stated_durable }
