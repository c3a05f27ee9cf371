use Rattle.hip_repairs.proofs.worked.CopyHoisted.{copy_hoisted_worked}
use Rattle.hip_repairs.proofs.examples.copy_is_hoisted.Goals as goal

pub returns : goal.returns
returns c = copy_hoisted_worked
