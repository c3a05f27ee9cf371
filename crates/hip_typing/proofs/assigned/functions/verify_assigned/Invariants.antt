use Rattle.hip_typing.proofs.DifferLemmas.{RightBefore}
use Rattle.hip_typing.proofs.assigned.functions.verify_assigned.Given as goal

abbrev pub invariant-each : goal.invariant-each
invariant-each l = RightBefore l.functions l.number
