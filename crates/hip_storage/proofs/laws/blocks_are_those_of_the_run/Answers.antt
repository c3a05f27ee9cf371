use Rattle.std.proofs.Common.{refl}
use Rattle.hip_storage.specs.Laws.ActionLaws.{push_done, block_refused, return_done}
use Rattle.hip_storage.proofs.laws.blocks_are_those_of_the_run.Goals as goal

pub returns : goal.returns
returns c = record {
  done = λ at new block size align dest pushed. push_done at.point at.holds pushed;
  refused = λ at size align dest kind trapped. block_refused at.point at.holds dest size align kind trapped refl;
  returns = λ at value g fs above low high. return_done at.point at.holds g fs above low high refl;
}
