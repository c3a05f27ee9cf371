use Rattle.hip_repair_laws.proofs.Weak.{weak_are_all}
use Rattle.hip_repair_laws.proofs.ordered_flushes.weak_images_are_all.Goals as goal

pub returns : goal.returns
returns c = weak_are_all
