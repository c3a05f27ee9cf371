use Rattle.hip_invariants.specs.Laws.LevelBounds.{registers_within}
use Rattle.hip_invariants.proofs.laws.levels_bound_registers.Goals as goal

pub returns : goal.returns
returns c = λ P s L closed I n. registers_within P s I L closed n
