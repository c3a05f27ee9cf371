use Rattle.std.proofs.Common.{◌≡◌, ◌+◌, ◌*◌, length}
use Rattle.hip_grammar.specs.Reader.{many_at, with_front}
use Rattle.hip_parse.specs.Left.{left}
use Rattle.hip_grammar.specs.Production.{one_more_by}
use Rattle.hip_grammar.specs.Words.{comma}
use Rattle.hip_grammar.specs.Grammar.{typed_const, const_within}
use Rattle.hip_parse.proofs.parser.Parser.+constants.Given as goal

abbrev pub invariant-more_consts-more : goal.invariant-more_consts-more
invariant-more_consts-more l = with_front l.items (many_at comma (one_more_by comma (typed_const (const_within l.depth))).read (left l.self)) ≡ with_front l.initial.items (many_at comma (one_more_by comma (typed_const (const_within l.depth))).read (left l.initial.self))

abbrev pub decreases-more_consts-more : goal.decreases-more_consts-more
decreases-more_consts-more l = length (left l.self)

abbrev pub decreases-const_value : goal.decreases-const_value
decreases-const_value l = 9 * l.depth + 0

abbrev pub decreases-array_value : goal.decreases-array_value
decreases-array_value l = 9 * l.depth + 8

abbrev pub decreases-struct_value : goal.decreases-struct_value
decreases-struct_value l = 9 * l.depth + 8

abbrev pub decreases-items : goal.decreases-items
decreases-items l = 9 * l.depth + 6

abbrev pub decreases-some_consts : goal.decreases-some_consts
decreases-some_consts l = 9 * l.depth + 4

abbrev pub decreases-more_consts : goal.decreases-more_consts
decreases-more_consts l = 9 * l.depth + 3

abbrev pub decreases-next_const : goal.decreases-next_const
decreases-next_const l = 9 * l.depth + 2

abbrev pub decreases-typed_const : goal.decreases-typed_const
decreases-typed_const l = 9 * l.depth + 1
