use Rattle.std.proofs.Common.{sym, ◌∙◌}
use Rattle.std.proofs.lemmas.Result.{err_from_is_err_and}
use Rattle.hip_grammar.specs.Laws.Loops.{goes_on, is_done}
use Rattle.hip_grammar.specs.declared.fault.TextFault.{TextFault}
use Rattle.hip_parse.specs.Left.{left}
use Rattle.hip_parse.proofs.Loops.{ends}
use Rattle.hip_grammar.specs.Production.{one_more_by}
use Rattle.hip_grammar.specs.Words.{comma}
use Rattle.hip_tree.specs.declared.constant.TypedConst.{TypedConst}
use Rattle.hip_grammar.specs.Grammar.{typed_const, const_within}
use Rattle.hip_parse.proofs.Some.{typed_const_some}
use Rattle.hip_parse.proofs.parser.Parser.+constants.Goals as goal

pub more_consts-returns-in_err-item : goal.more_consts-returns-in_err-item
more_consts-returns-in_err-item t c =
    let p = err_from_is_err_and c.from_residual.result c.from_residual.ensures.1 in
    rw (p.1, p.2) (ends TypedConst comma (one_more_by comma (typed_const (const_within c.args.depth))).read (typed_const_some c.args.depth) c.in_err-item.field-0.0 c.more.items (left c.more.self) (left c.next_const.new.self) _ (sym c.at_mark.ensures ∙ c.more-test.true) c.in_err-item.ensures c.more.invariant)

pub more_consts-more-smaller : goal.more_consts-more-smaller
more_consts-more-smaller t c = typed_const_some c.args.depth (left c.more.self) (c.in_ok-item.item, left c.next_const.new.self) c.in_ok-item.ensures

pub more_consts-more-preserved : goal.more_consts-more-preserved
more_consts-more-preserved t c =
    rw c.in_ok-push.ensures.ok (goes_on TextFault TypedConst comma (one_more_by comma (typed_const (const_within c.args.depth))).read (typed_const_some c.args.depth) c.more.items (left c.more.self) c.in_ok-item.item (left c.next_const.new.self) _ (sym c.at_mark.ensures ∙ c.more-test.true) c.in_ok-item.ensures c.more.invariant)

pub more_consts-returns : goal.more_consts-returns
more_consts-returns t c = is_done TextFault TypedConst comma (one_more_by comma (typed_const (const_within c.args.depth))).read (typed_const_some c.args.depth) c.more.items (left c.more.self) _ (sym c.at_mark.ensures ∙ c.more-test.false) c.more.invariant
