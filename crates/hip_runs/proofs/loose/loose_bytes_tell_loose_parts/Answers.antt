use Rattle.hip_runs.proofs.loose.loose_bytes_tell_loose_parts.Goals as goal
use Rattle.hip_runs.specs.Laws.Found.TagLaws.{loose_stated}

pub returns : goal.returns
returns c = λ P I n o len made. loose_stated P I n o len made
