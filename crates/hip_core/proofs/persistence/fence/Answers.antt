use Rattle.hip_core.proofs.OtherArms.{fences}
use Rattle.hip_core.proofs.persistence.fence.Goals as goal

pub returns-clause-does : goal.returns-clause-does
returns-clause-does c = fences c.move_on.ensures
