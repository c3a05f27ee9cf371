use Rattle.hip_runs.specs.Laws.SinceLaws.{fence_stated, stated_by_fence}
use Rattle.hip_runs.proofs.history.fences_are_stated.Goals as goal

pub returns : goal.returns
returns c = record { came = fence_stated; stated = stated_by_fence }
