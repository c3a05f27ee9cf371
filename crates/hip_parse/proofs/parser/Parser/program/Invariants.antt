use Rattle.std.proofs.Common.{◌≡◌, length}
use Rattle.hip_grammar.specs.Reader.{many_at, taken_up}
use Rattle.hip_grammar.specs.Text.{item, begins_item, with_item, no_items}
use Rattle.hip_parse.specs.Left.{left}
use Rattle.hip_parse.proofs.parser.Parser.program.Given as goal

abbrev pub invariant-more : goal.invariant-more
invariant-more l = taken_up with_item l.program (many_at begins_item item.read (left l.self)) ≡ taken_up with_item no_items (many_at begins_item item.read (left l.initial.self))

abbrev pub decreases-more : goal.decreases-more
decreases-more l = length (left l.self)
