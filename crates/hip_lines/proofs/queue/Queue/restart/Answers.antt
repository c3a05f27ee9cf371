use Rattle.hip_lines.proofs.Shows.{zero_index, numbers-none, shows-none}
use Rattle.hip_lines.proofs.queue.Queue.restart.Goals as goal

pub invariant_of-self-clause-shows : goal.invariant_of-self-clause-shows
invariant_of-self-clause-shows c = shows-none _ _ _ _ c.clear.ensures.items (zero_index 64) c.new-history.ensures

pub invariant_of-self-clause-numbered : goal.invariant_of-self-clause-numbered
invariant_of-self-clause-numbered c = numbers-none _ 64
