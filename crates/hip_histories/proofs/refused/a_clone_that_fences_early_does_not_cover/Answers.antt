use Rattle.hip_histories.proofs.wrong.EarlyClone.{early_clone_refused}
use Rattle.hip_histories.proofs.refused.a_clone_that_fences_early_does_not_cover.Goals as goal

pub returns : goal.returns
returns c = early_clone_refused
