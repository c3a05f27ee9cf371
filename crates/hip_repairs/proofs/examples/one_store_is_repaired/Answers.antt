use Rattle.hip_repairs.proofs.worked.OneStore.{one_store_worked}
use Rattle.hip_repairs.proofs.examples.one_store_is_repaired.Goals as goal

pub returns : goal.returns
returns c = one_store_worked
