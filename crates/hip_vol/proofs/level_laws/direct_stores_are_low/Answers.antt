use Rattle.hip_vol.proofs.DirectLow.{direct_low}
use Rattle.hip_vol.proofs.level_laws.direct_stores_are_low.Goals as goal

pub returns : goal.returns
returns c = direct_low
