use Rattle.hip_io.specs.Laws.SinkLaws.{and_then}
use Rattle.hip_command_io.proofs.many_lines.put_sort.Goals as goal

pub returns : goal.returns
returns g c = and_then c.put_after-put.ensures (rw c.sort_word.ensures at c.put_after.ensures)
