use Rattle.std.proofs.Common.{refl}
use Rattle.hip_storage.specs.Laws.ActionLaws.{store_done, access_refused}
use Rattle.hip_storage.proofs.laws.stores_are_those_of_the_run.Goals as goal

pub returns : goal.returns
returns c = record {
  done = λ at x new event value stored. store_done at.point at.holds x.some stored;
  refused = λ at x kind value trapped. access_refused at.point at.holds x.addr x.size x.align kind _ x.some trapped refl;
}
