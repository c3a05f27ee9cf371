use Rattle.std.proofs.Common.{◌≤◌, ◌/◌}
use Rattle.hip_lines.specs.Kept.{count_of, KeepsList}
use Rattle.hip_lines.proofs.KeptSteps.{MadeRoom}
use Rattle.hip_lines.proofs.kept.make_room_in.Given as goal

abbrev pub invariant-loop-line : goal.invariant-loop-line
invariant-loop-line l = MadeRoom (l.offset / 64) l.line l.initial.queues l.queues × (count_of l.initial.queues ≤ count_of l.queues) × KeepsList l.initial.flushed l.flushed l.initial.queues l.queues
