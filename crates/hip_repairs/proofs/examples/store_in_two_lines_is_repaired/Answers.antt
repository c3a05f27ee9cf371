use Rattle.hip_repairs.proofs.worked.StoreInTwoLines.{store_in_two_lines_worked}
use Rattle.hip_repairs.proofs.examples.store_in_two_lines_is_repaired.Goals as goal

pub returns : goal.returns
returns c = store_in_two_lines_worked
