use Rattle.hip_histories.proofs.wrong.LeftLoose.{early_fence_refused, early_flush_refused}
use Rattle.hip_histories.proofs.refused.early_flushes_and_fences_are_not_clean.Goals as goal

pub returns : goal.returns
returns c = record { flush = early_flush_refused; fence = early_fence_refused }
