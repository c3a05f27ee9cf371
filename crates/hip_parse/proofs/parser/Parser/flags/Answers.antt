use Rattle.std.proofs.Common.{sym, ◌∙◌}
use Rattle.std.proofs.lemmas.Result.{err_from_is_err_and}
use Rattle.hip_grammar.specs.Laws.Loops.{takes_up, fails_up, is_taken_up}
use Rattle.hip_grammar.specs.declared.fault.TextFault.{TextFault}
use Rattle.hip_parse.specs.Left.{left}
use Rattle.hip_grammar.specs.Production.{token}
use Rattle.hip_tree.specs.declared.instr.Flag.{Flag}
use Rattle.hip_tree.specs.declared.instr.Flags.{Flags}
use Rattle.hip_grammar.specs.Words.{a_word_of, is_word_of, flag_word}
use Rattle.hip_grammar.specs.Bodies.{flags, with_flag}
use Rattle.hip_parse.proofs.Some.{flag_some}
use Rattle.hip_parse.proofs.parser.Parser.flags.Goals as goal

pub returns-in_err-item : goal.returns-in_err-item
unfolding flags
returns-in_err-item c =
    let p = err_from_is_err_and c.from_residual.result c.from_residual.ensures.1 in
    rw (p.1, p.2) (fails_up TextFault Flag (is_word_of (flag_word c.args.op)) (token (a_word_of (flag_word c.args.op))).read (flag_some c.args.op) Flags with_flag c.more.set (left c.more.self) (c.in_err-item.field-0.0, left c.keyword.new.self) _ (sym c.at_keyword.ensures ∙ c.more-test.true) c.in_err-item.ensures c.more.invariant)

pub more-smaller : goal.more-smaller
more-smaller c = (flag_some c.args.op) (left c.more.self) (c.in_ok-item.item, left c.keyword.new.self) c.in_ok-item.ensures

pub more-preserved : goal.more-preserved
more-preserved c = rw c.with_flag-set.ensures (takes_up TextFault Flag (is_word_of (flag_word c.args.op)) (token (a_word_of (flag_word c.args.op))).read (flag_some c.args.op) Flags with_flag c.more.set (left c.more.self) c.in_ok-item.item (left c.keyword.new.self) _ (sym c.at_keyword.ensures ∙ c.more-test.true) c.in_ok-item.ensures c.more.invariant)

pub returns : goal.returns
unfolding flags
returns c = is_taken_up TextFault Flag (is_word_of (flag_word c.args.op)) (token (a_word_of (flag_word c.args.op))).read (flag_some c.args.op) Flags with_flag c.more.set (left c.more.self) _ (sym c.at_keyword.ensures ∙ c.more-test.false) c.more.invariant
