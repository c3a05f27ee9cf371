use Rattle.hip_runs.proofs.laws.parts_carry_their_history.Goals as goal
use Rattle.hip_runs.specs.Laws.HistoryLaws.{has_history}

-- src/laws.rt:18:1
pub returns : goal.returns
returns c = λ P I n. has_history P I n
