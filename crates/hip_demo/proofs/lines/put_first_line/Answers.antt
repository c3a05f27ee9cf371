use Rattle.hip_io.specs.Laws.SinkLaws.{and_then}
use Rattle.hip_demo.proofs.lines.put_first_line.Goals as goal

pub returns : goal.returns
returns g c =
    and_then (and_then (and_then (and_then c.put_after-put.ensures c.put_number-put.ensures) c.put_after-put-2.ensures)
    c.put_number-put-2.ensures) c.put_after.ensures
