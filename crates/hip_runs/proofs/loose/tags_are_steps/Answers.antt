use Rattle.hip_runs.proofs.loose.tags_are_steps.Goals as goal
use Rattle.hip_runs.specs.Laws.Found.TagLaws.{tag_made}

pub returns : goal.returns
returns c = λ P I n o len b i. tag_made P I n o len b i
