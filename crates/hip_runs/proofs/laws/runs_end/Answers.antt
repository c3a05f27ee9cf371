use Rattle.hip_runs.proofs.laws.runs_end.Goals as goal
use Rattle.hip_runs.specs.Laws.EndLaws.{runs_end}

-- src/laws.rt:11:1
pub returns : goal.returns
returns c = λ P I. runs_end P I
