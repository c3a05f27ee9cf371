use Rattle.hip_sound.specs.Laws.ConstLaws.{same_operand-is}
use Rattle.hip_typing.proofs.places.edges.is_same_operand.Goals as goal

pub returns : goal.returns
returns c = same_operand-is c.same.result c.args.a.now c.args.b.now c.same.ensures.0 c.same.ensures.1
