use Rattle.hip_io.specs.Laws.SinkLaws.{and_then}
use Rattle.hip_report_lines.proofs.counts.put_repair_totals.Goals as goal

pub returns : goal.returns
returns g c = and_then (and_then (and_then (and_then c.put_total-put.ensures (rw c.len.ensures at c.put_count-put.ensures)) (rw c.len-2.ensures at c.put_count-put-2.ensures)) (rw c.len-3.ensures at c.put_count-put-3.ensures)) (c.put_count.ensures)
