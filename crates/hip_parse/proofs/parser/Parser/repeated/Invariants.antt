use Rattle.std.proofs.Common.{◌≡◌, length}
use Rattle.hip_grammar.specs.Reader.{many_at, with_front}
use Rattle.hip_parse.specs.Left.{left}
use Rattle.hip_parse.proofs.parser.Parser.repeated.Given as goal

abbrev pub invariant-more : goal.invariant-more
invariant-more g l =
    with_front l.items (many_at (g.R.Repeated.begins l.part) (g.R.Repeated.reading l.part) (left l.self))
    ≡ with_front l.initial.items (many_at (g.R.Repeated.begins l.part) (g.R.Repeated.reading l.part) (left l.initial.self))

abbrev pub decreases-more : goal.decreases-more
decreases-more g l = length (left l.self)
