use Rattle.std.proofs.Common.{◌∙◌}
use Rattle.hip_resolve.proofs.Scoped.{entry_first, entry_next}
use Rattle.hip_resolve.proofs.scopes.place_after_all.Goals as goal

pub each-init : goal.each-init
each-init c = entry_first c.args.blocks.now c.args.start

pub each-preserved : goal.each-preserved
each-preserved c =
    c.in_ok-next.ensures ∙ entry_next c.args.blocks.now c.each.index c.args.start c.each.next c.index-blocks-index.result c.each-test.true c.index-blocks-index.is c.each.invariant
