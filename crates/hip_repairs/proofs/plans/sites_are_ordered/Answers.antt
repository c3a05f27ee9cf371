use Rattle.hip_repairs.proofs.plans.sites_are_ordered.Goals as goal
use Rattle.hip_repairs.specs.Laws.SiteOrder.{strict_order, filter_ascends, same_members}

pub returns : goal.returns
returns c = record { order = strict_order; ascends = λ P test. filter_ascends P test; same = λ xs ys h g same. same_members xs ys h g same }
