use Rattle.hip_io.specs.Laws.SinkLaws.{and_then}
use Rattle.hip_report_lines.proofs.sites.put_site.Goals as goal

pub returns : goal.returns
returns g c = and_then (and_then (and_then (and_then (and_then c.put_after-put.ensures (c.put_function-put.ensures)) (c.put_after-put-2.ensures)) (c.put_label-put.ensures)) (c.put_after-put-3.ensures)) (c.put_number.ensures)
