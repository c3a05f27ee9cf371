use Rattle.hip_trace.proofs.FirstLines.{stripped}
use Rattle.hip_trace.proofs.line.after_word.Goals as goal

pub returns : goal.returns
returns c = stripped c.args.bytes.now c.args.word.now c.strip_prefix.result _ _ c.strip_prefix.ensures.cases
