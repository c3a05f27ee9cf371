use Rattle.hip_words.proofs.Bounds.{records_valid}
use Rattle.hip_words.proofs.laws.records_are_valid.Goals as goal

pub returns : goal.returns
returns c = records_valid
