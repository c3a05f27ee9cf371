use Rattle.std.proofs.Common.{◌-◌}
use Rattle.hip_lines.specs.Kept.{RelistsFlushed}
use Rattle.hip_lines.proofs.Flushes.{Flushed}
use Rattle.hip_lines.proofs.kept.flush_in.Given as goal

abbrev pub invariant-loop-queue : goal.invariant-loop-queue
invariant-loop-queue l = Flushed l.offset l.len l.next l.changed l.initial.queues l.queues × RelistsFlushed l.initial.flushed l.flushed l.queues

abbrev pub decreases-loop-queue : goal.decreases-loop-queue
decreases-loop-queue l = l.end - l.next
