use Rattle.hip_io.specs.Laws.SinkLaws.{and_then}
use Rattle.hip_write.proofs.program.GlobalVarWritten.put.Goals as goal

pub returns : goal.returns
returns g c = and_then c.put_after-put.ensures (and_then c.put_name-put.ensures (and_then c.put_after-put-2.ensures (and_then c.put_kind-put.ensures (and_then c.put_type-put.ensures (and_then c.put_after-put-3.ensures (and_then c.put_const-put.ensures (and_then c.put_section-put.ensures (and_then c.put_align-put.ensures (c.put_after.ensures)))))))))
