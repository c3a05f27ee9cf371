use Rattle.hip_io.specs.Laws.SinkLaws.{and_then}
use Rattle.hip_report_lines.proofs.counts.put_rerun_counts.Goals as goal

pub returns : goal.returns
returns g c = and_then c.put_count-put.ensures (c.put_count.ensures)
