use Rattle.std.proofs.Common.{sym, ◌∙◌}
use Rattle.hip_tree.specs.Sites.{has_site}
use Rattle.hip_many.proofs.Decided.{one_less}
use Rattle.hip_many.proofs.mending.hoists_call.Goals as goal

pub calls-preserved : goal.calls-preserved
calls-preserved c =
    one_less (has_site c.args.hoist.now) c.calls.left c.in-Some.call c.calls.rest c.next.new.self c.calls-test.true
    c.in-Some.ensures.steps (sym c.contains.ensures ∙ c.if-contains.false) ∙ c.calls.invariant
