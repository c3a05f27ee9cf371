use Rattle.hip_vol.specs.LowStores.{least_levels}
use Rattle.hip_vol.proofs.KnownLevels.{program_is_least}
use Rattle.hip_vol.proofs.LowQuiet.{low_quiet}
use Rattle.hip_vol.proofs.level_laws.low_stores_stay_outside.Goals as goal

pub returns : goal.returns
returns c = λ P sound. low_quiet P (least_levels P) sound (program_is_least P).closed
