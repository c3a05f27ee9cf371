use Rattle.hip_words.proofs.Plain.{demos_plain}
use Rattle.hip_words.proofs.laws.demos_are_plain.Goals as goal

pub returns : goal.returns
returns c = demos_plain
