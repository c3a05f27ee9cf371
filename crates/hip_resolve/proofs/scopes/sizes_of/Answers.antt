use Rattle.std.proofs.Common.{◌∙◌}
use Rattle.hip_resolve.proofs.Scoped.{lists_on, size_at}
use Rattle.hip_resolve.proofs.scopes.sizes_of.Goals as goal

pub each-preserved : goal.each-preserved
each-preserved c =
    lists_on c.in_ok-size.size c.each.invariant c.in_ok-push.ensures.ok
    (c.in_ok-size.ensures ∙ size_at c.args.functions.now c.each.index c.index-functions-index.result c.each-test.true c.index-functions-index.is)
