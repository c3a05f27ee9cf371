use Rattle.hip_repairs.specs.Choice.{plan_for}
use Rattle.hip_vol.specs.LowStores.{low_stores}
use Rattle.hip_repair_commands.proofs.Thins.{itself}
use Rattle.hip_repair_commands.proofs.thin_laws.thins_cure.Goals as goal

pub returns : goal.returns
returns c = λ P I found sound valid is.
    c.plans_cure.ensures P I (plan_for P found) (low_stores P) found sound valid (c.low_stores_stay_outside.ensures P sound) is
    (itself (plan_for P found))
