use Rattle.hip_repairs.proofs.Theorems.{hoisted_calls_are_covered}
use Rattle.hip_repairs.proofs.laws.hoisted_calls_are_covered.Goals as goal

pub returns : goal.returns
returns c = hoisted_calls_are_covered
