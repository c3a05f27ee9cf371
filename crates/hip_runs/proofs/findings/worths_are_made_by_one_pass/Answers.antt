use Rattle.hip_runs.proofs.findings.worths_are_made_by_one_pass.Goals as goal
use Rattle.hip_runs.specs.Laws.Found.FoundLaws.{worths-are}

pub returns : goal.returns
returns c = λ marks site operand. worths-are marks site operand
