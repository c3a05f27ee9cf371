use Rattle.hip_io.specs.Laws.SinkLaws.{and_then}
use Rattle.hip_command_io.proofs.many_lines.put_reason.Goals as goal

pub returns : goal.returns
returns g c =
    and_then (and_then (and_then (and_then c.put_sort-put.ensures c.put_after-put.ensures) c.put_site-put.ensures)
    c.put_traces-put.ensures) c.put_after.ensures
