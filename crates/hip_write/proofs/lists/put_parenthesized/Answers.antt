use Rattle.hip_io.specs.Laws.SinkLaws.{and_then}
use Rattle.hip_write.proofs.lists.put_parenthesized.Goals as goal

pub returns : goal.returns
returns g c = and_then c.put_after-put.ensures (and_then c.put_joined-put.ensures c.put_after.ensures)
