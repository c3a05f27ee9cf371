use Rattle.hip_runs.proofs.images.images_make_valid_inputs.Goals as goal
use Rattle.hip_runs.specs.Laws.ImageLaws.{image_valid, image_input}

pub returns : goal.returns
returns c = record { valid = λ P I n content v h. image_valid P I n content v h; input = λ P I n content i v h. image_input P I n content i v h }
