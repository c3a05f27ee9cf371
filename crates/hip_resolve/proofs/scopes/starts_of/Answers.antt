use Rattle.std.proofs.Common.{◌+◌, length, ap, sym, ◌∙◌}
use Rattle.hip_tree.specs.declared.program.Function.{Function}
use Rattle.hip_code.specs.Entries.{entry_in, entry_of}
use Rattle.hip_resolve.proofs.Scoped.{function_first, function_next, lists_none, lists_on}
use Rattle.hip_resolve.proofs.scopes.starts_of.Goals as goal

pub each-init : goal.each-init
each-init c = record { next = function_first c.args.functions.now; listed = lists_none (λ g. entry_of c.args.functions.now g 0) c.new-starts.ensures }

pub each-preserved : goal.each-preserved
each-preserved c = record {
  next = c.in_ok-next.ensures ∙ ap (λ bs. c.each.next + entry_in bs (length bs)) (c.as_slice.ensures ∙ ap (λ (f : Function). f.blocks) (sym c.index-functions-index.is))
      ∙ function_next c.args.functions.now c.each.index c.each.next c.index-functions-index.result c.each-test.true c.index-functions-index.is c.each.invariant.next;
  listed = lists_on c.each.next c.each.invariant.listed c.in_ok-push.ensures.ok c.each.invariant.next;
}
