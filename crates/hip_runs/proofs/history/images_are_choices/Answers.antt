use Rattle.hip_runs.specs.Laws.CrashLaws.{choice-image, image-choice}
use Rattle.hip_runs.proofs.history.images_are_choices.Goals as goal

pub returns : goal.returns
returns c = record { choice = choice-image; image = image-choice }
