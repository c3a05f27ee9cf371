use Rattle.hip_io.specs.Laws.SinkLaws.{then_delivers}
use Rattle.hip_report_lines.proofs.reports.put_reports.Goals as goal

pub returns : goal.returns
returns g c = then_delivers c.put_each-put.ensures c.deliver_after.ensures
