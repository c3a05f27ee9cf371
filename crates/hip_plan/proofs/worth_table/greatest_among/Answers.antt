use Rattle.std.proofs.Common.{rules, ◌≡◌, List, subst, sym, ap, ◌∙◌, ℤ, of_z, to_z}
use Rattle.std.specs.Int.{w128}
use Rattle.std.proofs.lemmas.Int.{to_z-of_z}
use Rattle.hip_plan.specs.Worths.{OperandKey, greater_one}
use Rattle.hip_plan.proofs.Limits.{AreBounds, all_bounds, more_bounds}
use Rattle.hip_plan.proofs.worth_table.greatest_among.Goals as goal

pub each-preserved : goal.each-preserved
each-preserved c =
    let so_far : ℤ = to_z w128 c.each.greatest-bits in
    let entries = c.args.worths.now.entries in
    let left = c.next.new.self in
    let worth : to_z w128 (of_z w128 c.in-Some.worth.now) ≡ c.in-Some.worth.now = search rules in
    let greater : to_z w128 (of_z w128 c.greater_one-greatest.result) ≡ greater_one so_far c.in-Some.worth.now =
    to_z-of_z w128 c.greater_one-greatest.result (record { sfits = c.greater_one-greatest.type_inv })
    ∙ c.greater_one-greatest.ensures ∙ ap (greater_one so_far) worth in
    subst (λ (z : ℤ). AreBounds z left entries) (sym greater)
    (more_bounds so_far (c.in-Some.field-0-0.now, c.in-Some.worth.now) left entries
    (subst (λ (es : List (OperandKey × ℤ)). AreBounds so_far es entries) c.in-Some.ensures.steps c.each.invariant))

pub returns : goal.returns
returns c =
    let greatest : ℤ = to_z w128 c.each.greatest-bits in
    let entries = c.args.worths.now.entries in
    all_bounds greatest entries
    (subst (λ (es : List (OperandKey × ℤ)). AreBounds greatest es entries) c.in-None.ensures.steps.0 c.each.invariant)
