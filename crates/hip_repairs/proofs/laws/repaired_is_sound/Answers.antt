use Rattle.std.proofs.Common.{refl}
use Rattle.hip_repairs.proofs.Theorems.{repaired_is_sound}
use Rattle.hip_repairs.proofs.laws.repaired_is_sound.Goals as goal

pub returns : goal.returns
returns c = record {
  sound = repaired_is_sound;
  same_region = λ P plan skip. refl;
  same_addresses = λ P plan skip base number. refl;
}
