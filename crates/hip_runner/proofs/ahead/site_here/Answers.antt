use Rattle.std.proofs.Common.{◌≡◌, None, Some, ap, cond, ◌∙◌, sym}
use Rattle.std.proofs.lemmas.Option.{get_or_from_slice_get}
use Rattle.hip_code.specs.Ops.{is_end}
use Rattle.hip_runner.specs.OpsAhead.{site_of_place}
use Rattle.hip_runner.proofs.ahead.site_here.Goals as goal

pub site-requires : goal.site-requires
site-requires c = c.requires.laid.entry

pub returns-then-is_end : goal.returns-then-is_end
returns-then-is_end c = λ o here.
    let code = c.args.code.now in
    let core = c.args.core.now in
    let op = c.index-op.result.now in
    let same : op ≡ o = c.index-op.ensures ∙ get_or_from_slice_get code.ops.items core.top.place o op here in
    sym (ap (λ b. cond b None (Some (site_of_place core))) (ap is_end (sym same) ∙ sym c.is_end.ensures ∙ c.if-is_end.true))

pub returns : goal.returns
returns c = λ o here.
    let code = c.args.code.now in
    let core = c.args.core.now in
    let op = c.index-op.result.now in
    let same : op ≡ o = c.index-op.ensures ∙ get_or_from_slice_get code.ops.items core.top.place o op here in
    ap Some c.site.ensures ∙ sym (ap (λ b. cond b None (Some (site_of_place core))) (ap is_end (sym same) ∙ sym c.is_end.ensures ∙ c.if-is_end.false))
