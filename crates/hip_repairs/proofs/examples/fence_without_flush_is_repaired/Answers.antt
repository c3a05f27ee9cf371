use Rattle.hip_repairs.proofs.worked.FenceWithoutFlush.{fence_without_flush_worked}
use Rattle.hip_repairs.proofs.examples.fence_without_flush_is_repaired.Goals as goal

pub returns : goal.returns
returns c = fence_without_flush_worked
