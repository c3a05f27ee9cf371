-- No worth is above the number of marks.
use Rattle.std.proofs.Common.{◌≡◌, ◌<◌, ◌^◌, length, sym, ap, ◌∙◌, subst, arith, ℤ, pos, to_z}
use Rattle.std.specs.Int.{w128}
use Rattle.std.proofs.lemmas.Int.{to_z_pos}
use Rattle.hip_runs.specs.declared.report.Marks.{Marks}
use Rattle.hip_plan.specs.Worths.{IsLimit}
use Rattle.hip_plan.proofs.Limits.{marks_limit}
use Rattle.hip_plan.proofs.worths.SharedFindingsWorths.limit.Goals as goal

pub returns : goal.returns
returns c =
    let few : c.len.result < 2 ^ 127 = omega (arith, c.len.type_inv) in
    let is : pos (length c.args.self.now.marks.pointed) ≡ to_z w128 c.len.result =
    ap pos (sym (c.len.ensures ∙ ap (λ (m : Marks). length m.pointed) c.marks.ensures)) ∙ sym (to_z_pos w128 c.len.result few) in
    subst (λ (z : ℤ). IsLimit c.args.self.now.marks z) is (marks_limit c.args.self.now.marks)
