use Rattle.hip_lines.proofs.KeptSteps.{TookUp}
use Rattle.hip_lines.proofs.kept.push_in.Given as goal

abbrev pub invariant-loop-line : goal.invariant-loop-line
invariant-loop-line l = TookUp l.offset l.size l.tag l.line l.initial.queues l.queues
