use Rattle.hip_repairs.proofs.plans.inputs_stay_valid.Goals as goal
use Rattle.hip_repairs.specs.Laws.Unchanged.{valid_again}

pub returns : goal.returns
returns c = λ P plan skip I v. valid_again P plan skip I v
