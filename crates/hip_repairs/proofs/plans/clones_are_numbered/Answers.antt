use Rattle.hip_repairs.proofs.functions.CloneNumbers.{clone_there, cloned_there}
use Rattle.hip_repairs.proofs.plans.clones_are_numbered.Goals as goal

pub returns : goal.returns
returns c = record { clone = λ P plan skip c i. clone_there P plan skip c i; original = λ P plan f i. cloned_there P plan f i }
