use Rattle.hip_invariants.specs.Laws.NeverStuck.{never_stuck}
use Rattle.hip_invariants.proofs.laws.sound_programs_never_get_stuck.Goals as goal

pub returns : goal.returns
returns c = λ P s I n. never_stuck P s I n
