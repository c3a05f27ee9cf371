use Rattle.hip_io.specs.Laws.SinkLaws.{and_then}
use Rattle.hip_write.proofs.blocks.put_end_line.Goals as goal

pub returns : goal.returns
returns g c = and_then c.put_after-put.ensures (and_then c.put_end-put.ensures (c.put_after.ensures))
