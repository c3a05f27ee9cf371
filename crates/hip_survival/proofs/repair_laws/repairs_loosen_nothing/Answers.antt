use Rattle.hip_survival.specs.Laws.LoosensNothing.{loosens_nothing}
use Rattle.hip_survival.proofs.repair_laws.repairs_loosen_nothing.Goals as goal

pub returns : goal.returns
returns c = λ P plan skip s. loosens_nothing P plan skip s
