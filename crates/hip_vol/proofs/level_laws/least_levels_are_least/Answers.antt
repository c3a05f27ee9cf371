use Rattle.hip_vol.specs.LowStores.{least_levels}
use Rattle.hip_vol.specs.Rules.{level_rules}
use Rattle.hip_vol.proofs.KnownLevels.{rules_know, program_is_least}
use Rattle.hip_vol.proofs.LeastLevels.{least_is_one}
use Rattle.hip_vol.proofs.level_laws.least_levels_are_least.Goals as goal

pub returns : goal.returns
returns c = record { least = program_is_least; one = λ P A a v. least_is_one (level_rules P) (rules_know P) A (least_levels P) a (program_is_least P) v }
