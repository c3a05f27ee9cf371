use Rattle.hip_io.specs.Laws.SinkLaws.{and_then}
use Rattle.hip_write.proofs.instructions.put_choices.Goals as goal

pub returns : goal.returns
returns g c = and_then c.put_keyword-put.ensures (and_then c.put_after-put.ensures (and_then c.put_operand-put.ensures (and_then c.put_after-put-2.ensures (and_then c.put_keyword-put-2.ensures (and_then c.put_after-put-3.ensures c.put_operand.ensures)))))
