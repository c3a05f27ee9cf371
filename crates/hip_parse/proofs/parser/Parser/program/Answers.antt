use Rattle.std.proofs.Common.{sym, ◌∙◌}
use Rattle.std.proofs.lemmas.Result.{err_from_is_err_and}
use Rattle.hip_grammar.specs.Laws.Loops.{takes_up, is_taken_up}
use Rattle.hip_grammar.specs.declared.fault.TextFault.{TextFault}
use Rattle.hip_tree.specs.declared.program.Program.{Program}
use Rattle.hip_grammar.specs.Text.{TextItem, item, begins_item, with_item, text}
use Rattle.hip_parse.specs.Items.{item_of}
use Rattle.hip_parse.specs.Left.{left}
use Rattle.hip_parse.proofs.Loops.{ends_up}
use Rattle.hip_parse.proofs.Some.{item_some}
use Rattle.hip_parse.proofs.parser.Parser.program.Goals as goal

pub returns-in_err-item : goal.returns-in_err-item
unfolding text
returns-in_err-item c =
    let p = err_from_is_err_and c.from_residual.result c.from_residual.ensures.1 in
    rw (p.1, p.2) (ends_up TextItem Program with_item begins_item item.read item_some c.in_err-item.field-0.0 c.more.program (left c.more.self) (left c.item.new.self) _ (sym c.at_item.ensures ∙ c.more-test.true) c.in_err-item.ensures c.more.invariant)

pub more-smaller : goal.more-smaller
more-smaller c = item_some (left c.more.self) (item_of c.in_ok-item.item, left c.item.new.self) c.in_ok-item.ensures

pub more-preserved : goal.more-preserved
more-preserved c = rw c.in_ok-add.ensures (takes_up TextFault TextItem begins_item item.read item_some Program with_item c.more.program (left c.more.self) (item_of c.in_ok-item.item) (left c.item.new.self) _ (sym c.at_item.ensures ∙ c.more-test.true) c.in_ok-item.ensures c.more.invariant)

pub returns : goal.returns
unfolding text
returns c = is_taken_up TextFault TextItem begins_item item.read item_some Program with_item c.more.program (left c.more.self) _ (sym c.at_item.ensures ∙ c.more-test.false) c.more.invariant
