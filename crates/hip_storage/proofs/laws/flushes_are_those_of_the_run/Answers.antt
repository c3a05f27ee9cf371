use Rattle.std.proofs.Common.{refl}
use Rattle.hip_storage.specs.Laws.ActionLaws.{flush_done, persist_done, range_refused, fence_done}
use Rattle.hip_storage.proofs.laws.flushes_are_those_of_the_run.Goals as goal

pub returns : goal.returns
returns c = record {
  flushed = λ at event addr size x. flush_done at.point at.holds x;
  persisted = λ at event addr size x. persist_done at.point at.holds x;
  refused = λ at addr size kind go trapped. range_refused at.point at.holds addr size kind go trapped refl;
  fenced = λ at. fence_done at.point at.holds;
}
