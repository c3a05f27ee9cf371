use Rattle.hip_histories.proofs.SameSteps.{same_steps}
use Rattle.hip_histories.proofs.laws.repairs_take_the_same_steps.Goals as goal

pub returns : goal.returns
returns c = same_steps
