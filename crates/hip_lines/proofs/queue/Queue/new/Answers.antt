use Rattle.hip_lines.proofs.Shows.{zero_index, numbers-none, shows-none}
use Rattle.hip_lines.proofs.queue.Queue.new.Goals as goal

pub invariant_of-result-clause-shows : goal.invariant_of-result-clause-shows
invariant_of-result-clause-shows c = shows-none _ _ _ _ c.new.ensures.items (zero_index 64) c.new-2.ensures

pub invariant_of-result-clause-numbered : goal.invariant_of-result-clause-numbered
invariant_of-result-clause-numbered c = numbers-none _ 64
