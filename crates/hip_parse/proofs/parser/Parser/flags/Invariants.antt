use Rattle.std.proofs.Common.{◌≡◌, length}
use Rattle.hip_grammar.specs.Reader.{many_at, taken_up}
use Rattle.hip_parse.specs.Left.{left}
use Rattle.hip_grammar.specs.Production.{token}
use Rattle.hip_grammar.specs.Words.{a_word_of, is_word_of, flag_word}
use Rattle.hip_grammar.specs.Bodies.{with_flag, no_flags}
use Rattle.hip_parse.proofs.parser.Parser.flags.Given as goal

abbrev pub invariant-more : goal.invariant-more
invariant-more l = taken_up with_flag l.set (many_at (is_word_of (flag_word l.op)) (token (a_word_of (flag_word l.op))).read (left l.self)) ≡ taken_up with_flag no_flags (many_at (is_word_of (flag_word l.op)) (token (a_word_of (flag_word l.op))).read (left l.initial.self))

abbrev pub decreases-more : goal.decreases-more
decreases-more l = length (left l.self)
