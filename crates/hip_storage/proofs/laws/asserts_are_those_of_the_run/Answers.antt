use Rattle.std.proofs.Common.{refl}
use Rattle.hip_storage.specs.Laws.ActionLaws.{assert_done, assert_refused}
use Rattle.hip_storage.proofs.laws.asserts_are_those_of_the_run.Goals as goal

pub returns : goal.returns
returns c = record {
  done = λ at addr size inside. assert_done at.point at.holds addr size inside refl;
  refused = λ at addr size outside. assert_refused at.point at.holds addr size outside refl;
}
