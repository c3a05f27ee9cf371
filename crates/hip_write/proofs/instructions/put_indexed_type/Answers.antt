use Rattle.hip_io.specs.Laws.SinkLaws.{and_then}
use Rattle.hip_write.proofs.instructions.put_indexed_type.Goals as goal

pub returns : goal.returns
returns g c = and_then c.put_assigned-put.ensures (and_then c.put_after-put.ensures (and_then c.put_inbounds-put.ensures c.put_type.ensures))
