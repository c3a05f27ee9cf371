use Rattle.hip_words.proofs.Bounds.{runs_valid}
use Rattle.hip_words.proofs.laws.runs_are_valid.Goals as goal

pub returns : goal.returns
returns c = runs_valid
