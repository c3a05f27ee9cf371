use Rattle.hip_io.specs.Laws.SinkLaws.{and_then}
use Rattle.hip_command_io.proofs.counts.put_thin_counts.Goals as goal

pub returns : goal.returns
returns g c = and_then c.put_repair_counts-put.ensures c.put_count.ensures
