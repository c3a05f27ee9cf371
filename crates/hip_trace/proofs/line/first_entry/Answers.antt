use Rattle.hip_trace.proofs.FirstLines.{fence_first}
use Rattle.hip_trace.proofs.line.first_entry.Goals as goal

pub returns-in-Some-after_word-2 : goal.returns-in-Some-after_word-2
returns-in-Some-after_word-2 c = fence_first c.args.bytes.now c.in-Some-after_word-2.rest.now c.in-Some-after_word-2.ensures
