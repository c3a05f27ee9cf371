use Rattle.std.proofs.Common.{◌≡◌, ◌+◌, ◌*◌, length}
use Rattle.hip_grammar.specs.Reader.{many_at, with_front}
use Rattle.hip_parse.specs.Left.{left}
use Rattle.hip_grammar.specs.Production.{one_more_by}
use Rattle.hip_grammar.specs.Words.{comma}
use Rattle.hip_grammar.specs.Grammar.{type_within}
use Rattle.hip_parse.proofs.parser.Parser.+types.Given as goal

abbrev pub invariant-more_fields-more : goal.invariant-more_fields-more
invariant-more_fields-more l = with_front l.items (many_at comma (one_more_by comma (type_within l.depth)).read (left l.self)) ≡ with_front l.initial.items (many_at comma (one_more_by comma (type_within l.depth)).read (left l.initial.self))

abbrev pub decreases-more_fields-more : goal.decreases-more_fields-more
decreases-more_fields-more l = length (left l.self)

abbrev pub decreases-array : goal.decreases-array
decreases-array l = 8 * l.depth + 1

abbrev pub decreases-structure : goal.decreases-structure
decreases-structure l = 8 * l.depth + 7

abbrev pub decreases-fields : goal.decreases-fields
decreases-fields l = 8 * l.depth + 5

abbrev pub decreases-some_fields : goal.decreases-some_fields
decreases-some_fields l = 8 * l.depth + 3

abbrev pub decreases-next_field : goal.decreases-next_field
decreases-next_field l = 8 * l.depth + 1

abbrev pub decreases-more_fields : goal.decreases-more_fields
decreases-more_fields l = 8 * l.depth + 2

abbrev pub decreases-ty : goal.decreases-ty
decreases-ty l = 8 * l.depth + 0
