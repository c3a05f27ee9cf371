-- A score is the greatest worth of the operands.
use Rattle.std.proofs.Common.{◌≡◌, ◌↔◌, [], IsNone, Option, sym, subst, ℤ}
use Rattle.hip_tree.specs.Sites.{instr_of}
use Rattle.hip_runs.specs.Found.Scores.{operands_at}
use Rattle.hip_plan.proofs.Greatest.{no_greatest}
use Rattle.hip_plan.proofs.scores.score.Goals as goal

pub returns-clause-none : goal.returns-clause-none
returns-clause-none c =
    let os = operands_at c.args.checked.now (instr_of c.args.checked.now c.args.site) in
    subst (λ (s : Option ℤ). IsNone s ↔ (os ≡ [])) (sym c.score_by.ensures) (no_greatest c.args.findings.now.marks c.args.site os)
