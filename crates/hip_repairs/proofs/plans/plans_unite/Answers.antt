use Rattle.hip_repairs.proofs.plans.plans_unite.Goals as goal
use Rattle.hip_repairs.specs.Laws.PlanLaws.{has_first, has_second, suiting_within, union_suits}

pub returns : goal.returns
returns c = record { first = λ P a b w. has_first P a b w; second = λ P a b w. has_second P a b w; within = λ P plan s. suiting_within P plan s; suits = λ P a b f g. union_suits P a b f g }
