use Rattle.hip_globals.proofs.ByteLists.{byte_more}
use Rattle.hip_globals.proofs.initial.push_number.Goals as goal

pub each-preserved : goal.each-preserved
each-preserved c = rw c.in_ok-push.ensures.ok (byte_more c.each.bytes _ c.args.count c.each._byte c.each.rest c.each-test.true c.each.invariant)
