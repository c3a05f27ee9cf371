use Rattle.hip_trace.proofs.FirstLines.{assert_first}
use Rattle.hip_trace.proofs.line.first_assert.Goals as goal

pub returns : goal.returns
returns c = assert_first _ _ _ _ _ c.in_ok-addr.ensures c.in_ok-size.ensures
