use Rattle.hip_sound.specs.Laws.TypeLaws.{same_type-is}
use Rattle.hip_typing.proofs.constants.shape.is_same_type.Goals as goal

pub returns : goal.returns
returns c = same_type-is c.same_ty.result c.args.a.now c.args.b.now c.same_ty.ensures.0 c.same_ty.ensures.1
