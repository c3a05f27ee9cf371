use Rattle.hip_io.specs.Laws.SinkLaws.{and_then}
use Rattle.hip_write.proofs.words.put_flags.Goals as goal

pub returns : goal.returns
returns g c = and_then c.put_flag-put.ensures (and_then c.put_flag-put-2.ensures c.put_flag.ensures)
