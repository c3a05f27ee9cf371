use Rattle.std.proofs.Common.{◌+◌, ◌∙◌}
use Rattle.hip_code.specs.Entries.{entry_in}
use Rattle.hip_resolve.proofs.Scoped.{entry_first, entry_next, lists_none, lists_on}
use Rattle.hip_resolve.proofs.scopes.block_places.Goals as goal

pub each-init : goal.each-init
each-init c = record { next = entry_first c.args.blocks.now c.args.start; listed = lists_none (λ b. c.args.start + entry_in c.args.blocks.now b) c.new-places.ensures }

pub each-preserved : goal.each-preserved
each-preserved c = record {
  next = c.in_ok-next.ensures ∙ entry_next c.args.blocks.now c.each.index c.args.start c.each.next c.index-blocks-index.result c.each-test.true c.index-blocks-index.is c.each.invariant.next;
  listed = lists_on c.each.next c.each.invariant.listed c.in_ok-push.ensures.ok c.each.invariant.next;
}
