use Rattle.hip_repair_laws.proofs.Steps.{adds_few}
use Rattle.hip_repair_laws.proofs.costs.repairs_add_few_steps.Goals as goal

pub returns : goal.returns
returns c = adds_few
