use Rattle.std.proofs.Common.{◌≡◌, drop}
use Rattle.hip_tree.specs.Sites.{instr_of}
use Rattle.hip_runs.specs.Found.Scores.{greatest_worth, operands_at, score}
use Rattle.hip_plan.proofs.Greatest.{joined}
use Rattle.hip_plan.proofs.scores.score_by.Given as goal

abbrev pub invariant-each : goal.invariant-each
invariant-each g l =
    joined l.score (greatest_worth (g.W.Worths.found l.worths).marks l.site l.operand (drop l.operand (operands_at l.checked (instr_of l.checked l.site))))
    ≡ score l.checked (g.W.Worths.found l.worths) l.site
