use Rattle.hip_repairs.proofs.worked.FlushWithoutFence.{flush_without_fence_worked}
use Rattle.hip_repairs.proofs.examples.flush_without_fence_is_repaired.Goals as goal

pub returns : goal.returns
returns c = flush_without_fence_worked
