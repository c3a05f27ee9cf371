use Rattle.hip_survival.specs.Laws.CoveredSurvive.{covered_survives}
use Rattle.hip_survival.proofs.repair_laws.stores_under_hoisted_calls_survive.Goals as goal

pub returns : goal.returns
returns c = λ P plan skip s quiet. covered_survives P plan skip s quiet
