use Rattle.hip_survival.specs.Laws.LostByte.{lost}
use Rattle.hip_survival.proofs.repair_laws.a_loose_byte_may_be_lost.Goals as goal

pub returns : goal.returns
returns c = lost
