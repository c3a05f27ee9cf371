use Rattle.hip_runs.proofs.images.bytes_follow_the_durable.Goals as goal
use Rattle.hip_runs.specs.Laws.ImageLaws.{past_durable}

pub returns : goal.returns
returns c = λ l q b first le. past_durable l q b first le
