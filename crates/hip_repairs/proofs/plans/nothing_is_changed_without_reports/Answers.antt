use Rattle.hip_repairs.proofs.plans.nothing_is_changed_without_reports.Goals as goal
use Rattle.hip_repairs.specs.Laws.Unchanged.{nothing_planned, nothing_repaired}

pub returns : goal.returns
returns c = record { plan = λ P found e. nothing_planned P found e; program = λ P skip. nothing_repaired skip P }
