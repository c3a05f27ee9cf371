use Rattle.hip_invariants.specs.Laws.FittingValues.{registers_fit}
use Rattle.hip_invariants.proofs.laws.registers_fit_their_types.Goals as goal

pub returns : goal.returns
returns c = λ P s I v n. registers_fit P s I v n
