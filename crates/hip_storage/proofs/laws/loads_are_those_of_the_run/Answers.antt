use Rattle.std.proofs.Common.{refl}
use Rattle.hip_storage.specs.Laws.ActionLaws.{load_done, access_refused}
use Rattle.hip_storage.proofs.laws.loads_are_those_of_the_run.Goals as goal

pub returns : goal.returns
returns c = record {
  done = λ at x value dest m loaded. load_done at.point at.holds m x.some loaded refl;
  refused = λ at x kind go trapped. access_refused at.point at.holds x.addr x.size x.align kind go x.some trapped refl;
}
