use Rattle.hip_words.proofs.Bounds.{demos_valid}
use Rattle.hip_words.proofs.laws.demos_are_valid.Goals as goal

pub returns : goal.returns
returns c = demos_valid
