-- No worth is above the greatest one in the table.
use Rattle.std.proofs.Common.{sym, subst, ℤ, of_z, to_z}
use Rattle.std.specs.Int.{w128}
use Rattle.std.proofs.lemmas.Int.{to_z-of_z}
use Rattle.hip_runs.specs.declared.report.Findings.{Findings}
use Rattle.hip_plan.specs.Worths.{IsLimit}
use Rattle.hip_plan.proofs.Limits.{table_limit}
use Rattle.hip_plan.proofs.worth_table.WorthTableWorths.limit.Goals as goal

pub returns : goal.returns
returns c =
    let greatest : ℤ = c.self.inside.greatest in
    let limit = table_limit c.self.inside.worths.entries greatest c.self.inside.found.now.marks c.self.invariant in
    subst (λ (f : Findings). IsLimit f.marks (to_z w128 (of_z w128 greatest))) c.self.view_is
    (subst (λ (z : ℤ). IsLimit c.self.inside.found.now.marks z) (sym (to_z-of_z w128 greatest c.self.invariant.fits)) limit)
