use Rattle.hip_io.specs.Laws.SinkLaws.{and_then}
use Rattle.hip_demo.proofs.lines.put_lines.Goals as goal

pub returns : goal.returns
returns g c =
    and_then (and_then (and_then (and_then c.put_first_line-put.ensures c.put_total-put.ensures)
    c.put_repair_totals-put.ensures) c.put_total-put-2.ensures) c.put_count.ensures
