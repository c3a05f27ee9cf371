use Rattle.hip_repair_answers.specs.Laws.Cures.{cures_by}
use Rattle.hip_repair_answers.proofs.laws.plans_cure.Goals as goal

pub returns : goal.returns
returns c = cures_by
