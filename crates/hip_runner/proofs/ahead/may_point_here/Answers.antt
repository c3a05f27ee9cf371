use Rattle.std.proofs.Common.{◌≡◌, ap, ◌∙◌}
use Rattle.std.proofs.lemmas.Option.{get_or_from_slice_get}
use Rattle.hip_runner.specs.OpsAhead.{may_point}
use Rattle.hip_runner.proofs.ahead.may_point_here.Goals as goal

pub returns : goal.returns
returns c = λ o here.
    let code = c.args.code.now in
    let core = c.args.core.now in
    let op = c.index-op.result.now in
    let same : op ≡ o = c.index-op.ensures ∙ get_or_from_slice_get code.ops.items core.top.place o op here in
    c.may_point.ensures ∙ ap may_point same
