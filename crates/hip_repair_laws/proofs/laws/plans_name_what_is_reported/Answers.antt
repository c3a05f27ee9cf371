use Rattle.hip_repair_laws.proofs.Reported.{planned_reported}
use Rattle.hip_repair_laws.proofs.laws.plans_name_what_is_reported.Goals as goal

pub returns : goal.returns
returns c = planned_reported
