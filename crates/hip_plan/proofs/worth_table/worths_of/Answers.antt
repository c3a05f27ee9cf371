-- The table has the worths by the marks so far.
use Rattle.std.proofs.Common.{◌<◌, ◌^◌, sym, ap, ap₂, ◌∙◌, subst, arith, ℤ, ◌+ℤ◌}
use Rattle.std.proofs.lemmas.Int.{ints}
use Rattle.hip_runs.specs.Found.Scores.{worth_of}
use Rattle.hip_plan.proofs.Sums.{IsSmall, both_folded, sum_fits, worth_small}
use Rattle.hip_plan.proofs.Tables.{among_within, marked_alike, one_more}
use Rattle.hip_plan.proofs.worth_table.worths_of.Goals as goal

pub overflow_add-worth : goal.overflow_add-worth
overflow_add-worth c =
    let few : c.each.mark-index < 2 ^ 64 = omega arith in
    let within = among_within c.each.worths.entries c.args.hit.now c.args.pointed.now c.each.mark-index _ c.worth_among.result c.each-test.true c.each.invariant c.worth_among.ensures in
    let small : IsSmall c.worth_of.result = subst IsSmall (sym c.worth_of.ensures) (worth_small c.is_marked.result) in
    let fits = sum_fits c.each.mark-index c.worth_among.result c.worth_of.result few within small in
    omega (arith, ints)

pub each-preserved : goal.each-preserved
each-preserved c =
    let a : ℤ = c.worth_among.result in
    let r : ℤ = c.worth_of.result in
    let few : c.each.mark-index < 2 ^ 64 = omega arith in
    let within = among_within c.each.worths.entries c.args.hit.now c.args.pointed.now c.each.mark-index _ a c.each-test.true c.each.invariant c.worth_among.ensures in
    let small : IsSmall r = subst IsSmall (sym c.worth_of.ensures) (worth_small c.is_marked.result) in
    one_more c.each.worths.entries c.insert.new.self.entries c.args.hit.now c.args.pointed.now c.each.mark-index _ _ c.each-test.true c.in_ok-insert.ensures.updates.0
    (both_folded a r (record { sfits = c.worth_among.type_inv }) (record { sfits = c.worth_of.type_inv }) (sum_fits c.each.mark-index a r few within small)
    ∙ ap₂ (λ (x z : ℤ). x +ℤ z) c.worth_among.ensures (c.worth_of.ensures ∙ ap worth_of (c.is_marked.ensures ∙ marked_alike _ _ c.in_ok-hit.ensures _)))
    c.each.invariant
