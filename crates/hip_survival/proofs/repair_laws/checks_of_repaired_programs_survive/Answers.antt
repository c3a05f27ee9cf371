use Rattle.hip_survival.specs.Laws.ChecksSurvive.{repaired_survives}
use Rattle.hip_survival.proofs.repair_laws.checks_of_repaired_programs_survive.Goals as goal

pub returns : goal.returns
returns c = λ P plan skip I found s v quiet is has. repaired_survives P plan skip I found s v quiet is has
