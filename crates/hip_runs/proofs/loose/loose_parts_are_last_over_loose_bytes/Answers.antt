use Rattle.hip_runs.proofs.loose.loose_parts_are_last_over_loose_bytes.Goals as goal
use Rattle.hip_runs.specs.Laws.Found.LooseBytes.{part_loose, loose_part}

pub returns : goal.returns
returns c = record { byte = λ o n made ls p i. part_loose o n made ls p i; part = λ o n made ls p r. loose_part o n made ls p r }
