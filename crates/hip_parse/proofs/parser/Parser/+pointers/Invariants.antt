use Rattle.std.proofs.Common.{◌+◌, ◌*◌}
use Rattle.hip_parse.proofs.parser.Parser.+pointers.Given as goal

abbrev pub decreases-pointer : goal.decreases-pointer
decreases-pointer l = 3 * l.depth

abbrev pub decreases-gep_const : goal.decreases-gep_const
decreases-gep_const l = 3 * l.depth + 2

abbrev pub decreases-gep_inside : goal.decreases-gep_inside
decreases-gep_inside l = 3 * l.depth + 1
