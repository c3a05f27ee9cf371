use Rattle.hip_repair_commands.proofs.Checks.{reported, reported_part}
use Rattle.hip_repair_commands.proofs.check.report_findings.Goals as goal

pub returns-in-Done-clause-gives : goal.returns-in-Done-clause-gives
returns-in-Done-clause-gives g c =
    rw (c.len.ensures, c.reports-reports.ensures) (reported c.args.checked.now c.args.replayed.now.input
    c.args.replayed.now.findings (rw (c.program.ensures.is, c.reports-reports.ensures) at c.in-Done.ensures.how))

pub returns-in-Failed-clause-gives : goal.returns-in-Failed-clause-gives
returns-in-Failed-clause-gives g c =
    reported_part c.args.checked.now c.args.replayed.now.input c.args.replayed.now.findings
    (rw (c.program.ensures.is, c.reports-reports.ensures) at c.in-Failed.ensures.how)
