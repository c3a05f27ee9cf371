use Rattle.hip_histories.proofs.Repairs.{crash_safe, lasts_on}
use Rattle.hip_histories.proofs.laws.repairs_are_crash_safe.Goals as goal

pub returns : goal.returns
returns c = record {
  lasts = λ P I plan skip found s v quiet is has. lasts_on P I plan skip found s v quiet is has;
  safe = λ P I plan skip found s v quiet is has. crash_safe P I plan skip found s v quiet is has;
}
