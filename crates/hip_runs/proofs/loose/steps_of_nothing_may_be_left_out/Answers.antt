use Rattle.hip_runs.proofs.loose.steps_of_nothing_may_be_left_out.Goals as goal
use Rattle.hip_runs.specs.Laws.Found.TagLaws.{range_flat}

pub returns : goal.returns
returns c = λ f n xs a h. range_flat f n xs a h
