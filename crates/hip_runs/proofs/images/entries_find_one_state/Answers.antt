use Rattle.hip_runs.proofs.images.entries_find_one_state.Goals as goal
use Rattle.hip_runs.specs.Laws.NextLaws.{entry_there, entry_is_one, entry_exact}

pub returns : goal.returns
returns c = record { there = λ P I entry m le. entry_there P I entry m le; one = λ P I entry m n f g. entry_is_one P I entry m n f g; exact = λ P I entry n h a. entry_exact P I entry n h a }
