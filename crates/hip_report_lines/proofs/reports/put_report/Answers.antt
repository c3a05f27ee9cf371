use Rattle.hip_io.specs.Laws.SinkLaws.{and_then}
use Rattle.hip_report_lines.proofs.reports.put_report.Goals as goal

pub returns : goal.returns
returns g c = and_then (and_then (and_then (and_then (and_then (and_then (and_then (rw c.kind.ensures at c.put_kind-put.ensures) (rw c.entry.ensures at c.put_numbered-put.ensures)) (rw c.check_entry.ensures at c.put_numbered-put-2.ensures)) (rw c.closed.ensures at c.put_numbered-put-3.ensures)) (rw c.flush_site.ensures at c.put_flush-put.ensures)) (c.put_after-put.ensures)) c.put_path-put.ensures) c.put_after.ensures
