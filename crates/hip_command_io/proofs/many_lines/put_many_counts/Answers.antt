use Rattle.hip_io.specs.Laws.SinkLaws.{and_then}
use Rattle.hip_command_io.proofs.many_lines.put_many_counts.Goals as goal

pub returns : goal.returns
returns g c =
    and_then (and_then c.put_count-put.ensures (rw c.len-clones.ensures at c.put_repair_totals-put.ensures))
    (rw (c.program.ensures.is, c.as_slice.ensures) at c.put_reasons.ensures)
