use Rattle.hip_repair_laws.proofs.Again.{repairs_fit, repairs_twice}
use Rattle.hip_repair_laws.proofs.costs.small_programs_are_repaired_twice.Goals as goal

pub returns-clause-fit : goal.returns-clause-fit
returns-clause-fit c = repairs_fit

pub returns-clause-twice : goal.returns-clause-twice
returns-clause-twice c = repairs_twice c.second_repair.ensures
