use Rattle.hip_io.specs.Laws.SinkLaws.{and_then}
use Rattle.hip_write.proofs.words.put_set_flag.Goals as goal

pub returns : goal.returns
returns g c = and_then c.put_keyword-put.ensures c.put_after.ensures
