use Rattle.hip_runs.proofs.loose.reports_follow_the_tags.Goals as goal
use Rattle.hip_runs.specs.Laws.Found.TagLaws.{reports_by_tags}

pub returns : goal.returns
returns c = λ P I n range tags h. reports_by_tags P I n range tags h
