use Rattle.std.proofs.Common.{◌≡◌, length, codes}
use Rattle.hip_grammar.specs.Reader.{leaders_at, with_leaders}
use Rattle.hip_grammar.specs.Words.{is_local, is_word}
use Rattle.hip_grammar.specs.Bodies.{assigned, phi}
use Rattle.hip_parse.specs.Left.{left}
use Rattle.hip_parse.proofs.parser.Parser.leading_phis.Given as goal

abbrev pub invariant-more : goal.invariant-more
invariant-more l = with_leaders l.phis (leaders_at is_local assigned.read (is_word (codes "phi")) (λ dest. (phi dest).read) (left l.self)) ≡ leaders_at is_local assigned.read (is_word (codes "phi")) (λ dest. (phi dest).read) (left l.initial.self)

abbrev pub decreases-more : goal.decreases-more
decreases-more l = length (left l.self)
