use Rattle.hip_io.specs.Laws.SinkLaws.{and_then}
use Rattle.hip_write.proofs.program.put_program.Goals as goal

pub returns : goal.returns
returns g c = and_then c.put_all-put.ensures (and_then c.put_all-put-2.ensures (c.put_all.ensures))
