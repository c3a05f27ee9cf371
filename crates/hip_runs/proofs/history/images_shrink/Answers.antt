use Rattle.hip_runs.specs.Laws.CrashLaws.{only_stores_add, only_fences_remove}
use Rattle.hip_runs.proofs.history.images_shrink.Goals as goal

pub returns : goal.returns
returns c = record { added = only_stores_add; removed = only_fences_remove }
