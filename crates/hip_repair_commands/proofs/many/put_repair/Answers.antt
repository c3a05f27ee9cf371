use Rattle.hip_repair_commands.proofs.Answered.{repaired, repaired_part}
use Rattle.hip_repair_commands.proofs.many.put_repair.Goals as goal

pub returns-in_err-write-clause-gives : goal.returns-in_err-write-clause-gives
returns-in_err-write-clause-gives g c = λ runs many total by cured.
    repaired_part c.args.checked runs c.args.traces c.args.reports c.args.made many total by cured c.from_residual.result
    (rw c.program.ensures.is at c.in_err-write.ensures.wrote) c.from_residual.ensures.1

pub returns-clause-gives : goal.returns-clause-gives
returns-clause-gives g c = λ runs many total by cured.
    repaired c.args.checked runs c.args.traces c.args.reports c.args.made many total by cured
    (rw c.program.ensures.is at c.in_ok-write.ensures.wrote)
