use Rattle.hip_invariants.specs.Laws.StackShape.{stack_is_shaped}
use Rattle.hip_invariants.proofs.laws.stack_keeps_its_shape.Goals as goal

pub returns : goal.returns
returns c = λ P I n. stack_is_shaped P I n
