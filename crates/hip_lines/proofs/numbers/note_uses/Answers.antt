use Rattle.std.proofs.Common.{arith}
use Rattle.hip_lines.proofs.Renumbers.{uses-noted}
use Rattle.hip_lines.proofs.numbers.note_uses.Goals as goal

pub note_bytes-requires : goal.note_bytes-requires
note_bytes-requires c = λ i. omega (arith, c.requires.numbered i, c.requires.last, c.requires.blank.0)

pub returns : goal.returns
returns c = uses-noted c.args.numbers.now c.args.uses.now c.note_bytes.new.uses c.args.flushed c.args.last c.requires.flushed c.requires.last c.requires.blank.0 c.requires.blank.1 c.requires.line c.note_bytes.ensures
