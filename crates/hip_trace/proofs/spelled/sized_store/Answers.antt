use Rattle.hip_trace.proofs.FirstLines.{sized}
use Rattle.hip_trace.proofs.spelled.sized_store.Goals as goal

pub returns-in-Some : goal.returns-in-Some
returns-in-Some c = sized c.args.addr c.args.value c.args.size c.in-Some.size c.in-Some.ensures
