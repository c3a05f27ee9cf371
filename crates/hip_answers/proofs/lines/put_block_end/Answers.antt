use Rattle.hip_io.specs.Laws.SinkLaws.{and_then}
use Rattle.hip_answers.proofs.lines.put_block_end.Goals as goal

pub returns : goal.returns
returns g c =
    and_then c.put_block-put.ensures c.put_after.ensures
