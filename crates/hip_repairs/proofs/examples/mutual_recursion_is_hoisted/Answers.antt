use Rattle.hip_repairs.proofs.worked.MutualRecursion.{mutual_recursion_worked}
use Rattle.hip_repairs.proofs.examples.mutual_recursion_is_hoisted.Goals as goal

pub returns : goal.returns
returns c = mutual_recursion_worked
