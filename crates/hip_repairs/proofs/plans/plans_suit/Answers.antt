use Rattle.hip_repairs.proofs.plans.plans_suit.Goals as goal
use Rattle.hip_repairs.specs.Laws.PlanLaws.{plan_suits}

pub returns : goal.returns
returns c = λ P I found f. plan_suits P I found f
