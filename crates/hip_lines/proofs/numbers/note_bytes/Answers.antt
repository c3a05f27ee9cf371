use Rattle.hip_lines.proofs.Renumbers.{noted-more}
use Rattle.hip_lines.proofs.numbers.note_bytes.Goals as goal

pub loop-i-preserved : goal.loop-i-preserved
loop-i-preserved c = noted-more c.args.numbers.now c.args.uses.now c.loop-i.uses c.loop-i.i (c.requires c.loop-i.i) c.loop-i.invariant
