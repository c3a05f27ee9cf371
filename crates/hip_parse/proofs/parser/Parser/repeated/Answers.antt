use Rattle.std.proofs.Common.{sym, ◌∙◌}
use Rattle.std.proofs.lemmas.Result.{err_from_is_err_and}
use Rattle.hip_grammar.specs.Laws.Loops.{goes_on, is_done}
use Rattle.hip_grammar.specs.declared.fault.TextFault.{TextFault}
use Rattle.hip_parse.specs.Left.{left}
use Rattle.hip_parse.proofs.Loops.{ends}
use Rattle.hip_parse.proofs.parser.Parser.repeated.Goals as goal

pub returns-in_err-item : goal.returns-in_err-item
returns-in_err-item g c =
    let p = err_from_is_err_and c.from_residual.result c.from_residual.ensures.1 in
    rw (p.1, p.2) (ends _ _ _ (g.met.R.Repeated.some c.args.part) c.in_err-item.field-0.0 c.more.items (left c.more.self) (left c.read_next.new.parser) _ (sym c.is_next.ensures ∙ c.more-test.true) c.in_err-item.ensures c.more.invariant)

pub more-smaller : goal.more-smaller
more-smaller g c = g.met.R.Repeated.some c.args.part (left c.more.self) (c.in_ok-item.item, left c.read_next.new.parser) c.in_ok-item.ensures

pub more-preserved : goal.more-preserved
more-preserved g c =
    rw c.in_ok-push.ensures.ok (goes_on TextFault _ _ _ (g.met.R.Repeated.some c.args.part) c.more.items (left c.more.self) c.in_ok-item.item (left c.read_next.new.parser) _ (sym c.is_next.ensures ∙ c.more-test.true) c.in_ok-item.ensures c.more.invariant)

pub returns : goal.returns
returns g c = rw c.fitted.ensures (is_done TextFault _ _ _ (g.met.R.Repeated.some c.args.part) c.more.items (left c.more.self) _ (sym c.is_next.ensures ∙ c.more-test.false) c.more.invariant)
