use Rattle.hip_runs.proofs.representation.valid_bytes_are_those_of_the_run.Goals as goal
use Rattle.hip_runs.specs.Laws.Represented.ValidLaws.{valid_is}

pub returns : goal.returns
returns c = valid_is
