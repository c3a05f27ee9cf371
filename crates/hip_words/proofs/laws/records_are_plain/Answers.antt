use Rattle.hip_words.proofs.PlainRun.{records_plain}
use Rattle.hip_words.proofs.laws.records_are_plain.Goals as goal

pub returns : goal.returns
returns c = records_plain
