use Rattle.hip_repairs.proofs.Theorems.{repairs_are_clean}
use Rattle.hip_repairs.proofs.laws.repairs_are_clean.Goals as goal

pub returns : goal.returns
returns c = repairs_are_clean
