use Rattle.hip_repair_laws.proofs.Sizes.{stays_small}
use Rattle.hip_repair_laws.proofs.costs.repairs_stay_small.Goals as goal

pub returns : goal.returns
returns c = stays_small
