use Rattle.hip_histories.proofs.wrong.ShortClone.{short_clone_refused}
use Rattle.hip_histories.proofs.refused.a_clone_that_leaves_out_a_store_does_not_cover.Goals as goal

pub returns : goal.returns
returns c = short_clone_refused
