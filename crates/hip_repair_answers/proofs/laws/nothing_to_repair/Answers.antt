use Rattle.hip_repair_answers.specs.Laws.Repairs.{nothing_to_repair}
use Rattle.hip_repair_answers.proofs.laws.nothing_to_repair.Goals as goal

pub returns : goal.returns
returns c = nothing_to_repair
