use Rattle.hip_repairs.proofs.worked.AssertInsideCallee.{assert_inside_callee_worked}
use Rattle.hip_repairs.proofs.examples.assert_inside_callee_is_repaired.Goals as goal

pub returns : goal.returns
returns c = assert_inside_callee_worked
