use Rattle.hip_many.proofs.OneUnion.{no_union, one_union, two_unite}
use Rattle.hip_many.proofs.laws.unions_are_one.Goals as goal

pub returns : goal.returns
returns c = record { one = one_union; none = no_union; two = two_unite }
