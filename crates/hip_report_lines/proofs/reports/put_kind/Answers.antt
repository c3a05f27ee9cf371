use Rattle.hip_io.specs.Laws.SinkLaws.{and_then}
use Rattle.hip_report_lines.proofs.reports.put_kind.Goals as goal

pub returns : goal.returns
returns g c = and_then c.put_after-put.ensures (rw c.kind_word.ensures at c.put_after.ensures)
