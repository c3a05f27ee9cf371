use Rattle.hip_repair_commands.proofs.SomeMany.{many_are_answered}
use Rattle.hip_repair_commands.proofs.many_laws.many_are_answered.Goals as goal

pub returns : goal.returns
returns c = many_are_answered c.plans_cure.ensures c.direct_stores_stay_outside.ensures
