use Rattle.hip_repairs.proofs.Theorems.{mending_plans_are_clean}
use Rattle.hip_repairs.proofs.clean.Mended.{contained_mends}
use Rattle.hip_repairs.proofs.laws.mending_plans_are_clean.Goals as goal

pub returns : goal.returns
returns c = record { clean = mending_plans_are_clean; contained = contained_mends }
