use Rattle.std.proofs.Common.{◌≡◌}
use Rattle.hip_tree.specs.Sites.{has_site}
use Rattle.hip_many.specs.MendingTests.{any_among}
use Rattle.hip_many.proofs.mending.hoists_call.Given as goal

abbrev pub invariant-calls : goal.invariant-calls
invariant-calls l = any_among (has_site l.hoist) l.left l.rest ≡ any_among (has_site l.hoist) l.fn.closed l.fn.calls

abbrev pub decreases-calls : goal.decreases-calls
decreases-calls l = l.left
