use Rattle.hip_histories.proofs.wrong.DroppedFlush.{dropped_flush_refused}
use Rattle.hip_histories.proofs.refused.a_dropped_flush_adds_a_history.Goals as goal

pub returns : goal.returns
returns c = dropped_flush_refused
