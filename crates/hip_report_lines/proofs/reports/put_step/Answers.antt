use Rattle.hip_io.specs.Laws.SinkLaws.{and_then}
use Rattle.hip_report_lines.proofs.reports.put_step.Goals as goal

pub returns : goal.returns
returns g c = and_then c.put_after-put.ensures c.put_site.ensures
