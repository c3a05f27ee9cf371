-- The greatest worth so far and those of the operands that are left.
use Rattle.std.proofs.Common.{◌+◌, drop, Option, ap, ◌∙◌, arith, ℤ}
use Rattle.std.specs.Int.{w128}
use Rattle.std.proofs.lemmas.Int.{to_z-of_z}
use Rattle.hip_tree.specs.Sites.{instr_of}
use Rattle.hip_runs.specs.Found.Scores.{greatest_worth, operands_at}
use Rattle.hip_plan.proofs.Greatest.{greatest_more, joined}
use Rattle.hip_plan.proofs.scores.score_by.Goals as goal

pub each-preserved : goal.each-preserved
each-preserved g c =
    let os = operands_at c.args.checked.now (instr_of c.args.checked.now c.args.site) in
    ap (λ (s : Option ℤ). joined s (greatest_worth (g.W.Worths.found c.args.worths.now).marks c.args.site (c.each.operand + 1) (drop (c.each.operand + 1) os))) c.greatest-score.ensures
    ∙ greatest_more (g.W.Worths.found c.args.worths.now).marks c.args.site os c.each.operand c.each.score _ (omega (arith, c.operand_count-operand-end.ensures)) (to_z-of_z w128 c.worth.result (record { sfits = c.worth.type_inv }) ∙ c.worth.ensures)
    ∙ c.each.invariant
