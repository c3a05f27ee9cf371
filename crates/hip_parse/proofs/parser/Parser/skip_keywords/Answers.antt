use Rattle.std.proofs.Common.{sym, ◌∙◌}
use Rattle.std.proofs.lemmas.Result.{err_from_is_err_and}
use Rattle.hip_grammar.specs.Laws.Loops.{takes_up, fails_up, is_taken_up}
use Rattle.hip_grammar.specs.Production.{token, skipped}
use Rattle.hip_grammar.specs.declared.fault.TextFault.{TextFault}
use Rattle.hip_grammar.specs.Words.{a_word_of, is_word_of}
use Rattle.hip_parse.specs.Left.{left}
use Rattle.hip_parse.proofs.Some.{word_some}
use Rattle.hip_parse.proofs.parser.Parser.skip_keywords.Goals as goal

pub returns-in_err-keyword : goal.returns-in_err-keyword
unfolding skipped
returns-in_err-keyword g c =
    let f = g.W.Words.meaning c.args.words in
    let p = err_from_is_err_and c.from_residual.result c.from_residual.ensures.1 in
    rw (p.1, p.2) (fails_up TextFault _ (is_word_of f) (token (a_word_of f)).read (word_some f) (Unit {0}) (λ s x. s) (tt {0}) (left c.more.self) (c.in_err-keyword.field-0.0, left c.keyword.new.self) _ (sym c.at_keyword.ensures ∙ c.more-test.true) c.in_err-keyword.ensures c.more.invariant)

pub more-smaller : goal.more-smaller
more-smaller g c = word_some (g.W.Words.meaning c.args.words) (left c.more.self) (_, left c.keyword.new.self) c.in_ok-keyword.ensures

pub more-preserved : goal.more-preserved
more-preserved g c =
    let f = g.W.Words.meaning c.args.words in
    takes_up TextFault _ (is_word_of f) (token (a_word_of f)).read (word_some f) (Unit {0}) (λ s x. s) (tt {0}) (left c.more.self) _ (left c.keyword.new.self) _ (sym c.at_keyword.ensures ∙ c.more-test.true) c.in_ok-keyword.ensures c.more.invariant

pub returns : goal.returns
unfolding skipped
returns g c =
    let f = g.W.Words.meaning c.args.words in
    is_taken_up TextFault _ (is_word_of f) (token (a_word_of f)).read (word_some f) (Unit {0}) (λ s x. s) (tt {0}) (left c.more.self) _ (sym c.at_keyword.ensures ∙ c.more-test.false) c.more.invariant
