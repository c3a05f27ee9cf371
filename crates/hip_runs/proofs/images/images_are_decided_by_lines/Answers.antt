use Rattle.hip_runs.proofs.images.images_are_decided_by_lines.Goals as goal
use Rattle.hip_runs.specs.Laws.ImageLaws.{image_of_test, test_of_image}

pub returns : goal.returns
returns c = record { image = λ I s content h. image_of_test I s content h; decided = λ I s content h. test_of_image I s content h }
