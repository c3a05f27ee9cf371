use Rattle.hip_repair_commands.proofs.OneMany.{many_are_one}
use Rattle.hip_repair_commands.proofs.many_laws.many_are_one.Goals as goal

pub returns : goal.returns
returns c = many_are_one c.unions_are_one.ensures.one
