use Rattle.hip_repairs.proofs.plans.plans_have_what_is_asked.Goals as goal
use Rattle.hip_repairs.specs.Laws.SiteOrder.{plan_asked}

pub returns : goal.returns
returns c = λ P found. plan_asked P found
