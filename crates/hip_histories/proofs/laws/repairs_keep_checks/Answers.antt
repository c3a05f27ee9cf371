use Rattle.hip_histories.proofs.Repairs.{all_survive}
use Rattle.hip_histories.proofs.laws.repairs_keep_checks.Goals as goal

pub returns : goal.returns
returns c = all_survive
