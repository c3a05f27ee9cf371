use Rattle.hip_trace.proofs.FirstLines.{persist_first}
use Rattle.hip_trace.proofs.line.first_persist.Goals as goal

pub returns : goal.returns
returns c = persist_first _ _ _ _ _ _ _ c.in_ok-addr.ensures c.in_ok-size.ensures c.in_ok-addr-2.ensures
