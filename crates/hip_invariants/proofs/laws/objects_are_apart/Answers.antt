use Rattle.hip_invariants.specs.Laws.ObjectsApart.{objects_apart}
use Rattle.hip_invariants.proofs.laws.objects_are_apart.Goals as goal

pub returns : goal.returns
returns c = λ P s I v n. objects_apart P s I v n
