use Rattle.hip_lines.specs.Next.{NoneLoose}
use Rattle.hip_lines.specs.Queues.{pending_in}
use Rattle.hip_lines.proofs.queue.Queue.first_loose.Given as goal

abbrev pub invariant-loop-offset : goal.invariant-loop-offset
invariant-loop-offset l = NoneLoose (pending_in l.self) l.from l.offset
