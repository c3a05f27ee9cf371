use Rattle.hip_repairs.proofs.Theorems.{repairs_do_no_harm}
use Rattle.hip_repairs.proofs.laws.repairs_do_no_harm.Goals as goal

pub returns : goal.returns
returns c = repairs_do_no_harm
