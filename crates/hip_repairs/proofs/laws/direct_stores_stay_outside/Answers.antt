use Rattle.hip_repairs.proofs.Theorems.{direct_stores_stay_outside}
use Rattle.hip_repairs.proofs.laws.direct_stores_stay_outside.Goals as goal

pub returns : goal.returns
returns c = direct_stores_stay_outside
