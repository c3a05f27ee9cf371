use Rattle.hip_repair_laws.proofs.Local.{local}
use Rattle.hip_repair_laws.proofs.laws.repairs_are_local.Goals as goal

pub returns : goal.returns
returns c = local
