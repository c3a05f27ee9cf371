-- No level is chosen past the calls that had returned.
use Rattle.std.proofs.Common.{◌≤◌, ℕ, sym, subst}
use Rattle.hip_plan.proofs.Levels.{choice_within}
use Rattle.hip_plan.proofs.choice.choose.Goals as goal

pub returns-clause-closed : goal.returns-clause-closed
returns-clause-closed c = subst (λ (n : ℕ). n ≤ c.args.report.now.closed) (sym c.choose_by.ensures) (choice_within c.args.checked.now c.args.findings.now c.args.report.now)
