use Rattle.hip_words.proofs.PlainMany.{crashes_plain}
use Rattle.hip_words.proofs.laws.crashes_are_plain.Goals as goal

pub returns : goal.returns
returns c = crashes_plain
