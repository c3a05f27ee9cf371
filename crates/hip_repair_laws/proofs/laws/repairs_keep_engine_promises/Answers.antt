use Rattle.hip_histories.specs.Chains.{repaired_on}
use Rattle.hip_repair_laws.proofs.Engines.{keeps_promises}
use Rattle.hip_repair_laws.proofs.laws.repairs_keep_engine_promises.Goals as goal

pub returns : goal.returns
returns c = λ P repairs sound.
    keeps_promises P (repaired_on P repairs) (c.chains_of_repairs_add_up.ensures.keep P repairs sound)
