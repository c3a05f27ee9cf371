use Rattle.hip_runs.specs.Laws.StoreLaws.{part-of_store}
use Rattle.hip_runs.proofs.history.parts_are_of_stores.Goals as goal

pub returns : goal.returns
returns c = part-of_store
