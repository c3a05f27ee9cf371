use Rattle.hip_io.specs.Laws.SinkLaws.{and_then}
use Rattle.hip_write.proofs.instructions.put_indexed.Goals as goal

pub returns : goal.returns
returns g c = and_then c.put_after-put.ensures (and_then c.put_operand-put.ensures c.put_more.ensures)
