use Rattle.hip_repair_answers.specs.Laws.Repairs.{second_repair}
use Rattle.hip_repair_answers.proofs.laws.second_repair.Goals as goal

pub returns : goal.returns
returns c = second_repair
