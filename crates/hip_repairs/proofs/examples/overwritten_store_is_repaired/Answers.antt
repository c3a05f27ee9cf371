use Rattle.hip_repairs.proofs.worked.OverwrittenStore.{overwritten_store_worked}
use Rattle.hip_repairs.proofs.examples.overwritten_store_is_repaired.Goals as goal

pub returns : goal.returns
returns c = overwritten_store_worked
