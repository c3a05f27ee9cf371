use Rattle.hip_words.proofs.PlainMany.{many_plain}
use Rattle.hip_words.proofs.laws.many_are_plain.Goals as goal

pub returns : goal.returns
returns c = many_plain
