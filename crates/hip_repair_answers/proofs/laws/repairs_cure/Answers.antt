use Rattle.hip_repair_answers.specs.Laws.Cures.{cures}
use Rattle.hip_repair_answers.proofs.laws.repairs_cure.Goals as goal

pub returns : goal.returns
returns c = cures
