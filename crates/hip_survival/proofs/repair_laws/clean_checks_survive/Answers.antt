use Rattle.hip_survival.specs.Laws.ChecksSurvive.{clean_survives}
use Rattle.hip_survival.proofs.repair_laws.clean_checks_survive.Goals as goal

pub returns : goal.returns
returns c = λ P s I v clean. clean_survives P s I v clean
