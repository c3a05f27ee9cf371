use Rattle.std.proofs.Common.{◌≡◌, length}
use Rattle.hip_grammar.specs.Reader.{many_at, taken_up}
use Rattle.hip_grammar.specs.Production.{token}
use Rattle.hip_grammar.specs.Words.{a_word_of, is_word_of}
use Rattle.hip_parse.specs.Left.{left}
use Rattle.hip_parse.proofs.parser.Parser.skip_keywords.Given as goal

abbrev pub invariant-more : goal.invariant-more
invariant-more g l =
    taken_up (λ s x. s) (tt {0}) (many_at (is_word_of (g.W.Words.meaning l.words)) (token (a_word_of (g.W.Words.meaning l.words))).read (left l.self))
    ≡ taken_up (λ s x. s) (tt {0}) (many_at (is_word_of (g.W.Words.meaning l.words)) (token (a_word_of (g.W.Words.meaning l.words))).read (left l.initial.self))

abbrev pub decreases-more : goal.decreases-more
decreases-more g l = length (left l.self)
