use Rattle.hip_trace.proofs.FirstLines.{sized, store_first}
use Rattle.hip_trace.proofs.line.first_store.Goals as goal

pub returns : goal.returns
returns c = store_first _ _ _ _ _ _ _ _ c.in_ok-addr.ensures c.in_ok-value.ensures c.in_ok-size.ensures (sized c.in_ok-addr.addr c.in_ok-value.value c.in_ok-size.size c.in_ok-size-2.size c.in_ok-size-2.ensures)
