-- Each mark adds at most 1.
use Rattle.std.proofs.Common.{◌≡◌, ◌+◌, drop, sym, ◌∙◌, subst, arith, ℤ, pos, ◌+ℤ◌, FitsSigned, to_z}
use Rattle.std.specs.Int.{w128}
use Rattle.std.proofs.lemmas.Int.{ints}
use Rattle.hip_runs.specs.Found.Scores.{worth_in}
use Rattle.hip_plan.proofs.Sums.{IsSmall, added_small, folded, worth_more}
use Rattle.hip_plan.proofs.worths.worth_by.Goals as goal

pub each-preserved : goal.each-preserved
each-preserved c =
    let s = to_z w128 c.each.sum-bits in
    let r = c.added_by-sum.result in
    let small : IsSmall r = subst IsSmall (sym c.added_by-sum.ensures) (added_small c.args.hit.now c.args.site c.args.operand _) in
    let fits : FitsSigned w128 r = record { sfits = c.added_by-sum.type_inv } in
    let sum_fits : FitsSigned w128 (s +ℤ r) = omega (arith, ints) in
    let e = folded s r fits sum_fits in
    record {
      rest = subst (λ (z : ℤ). worth_in c.args.hit.now c.args.site c.args.operand (drop (c.each.mark-index + 1) c.args.pointed.now) z ≡ worth_in c.args.hit.now c.args.site c.args.operand c.args.pointed.now (pos 0)) (sym e)
          (sym (worth_more c.args.hit.now c.args.site c.args.operand c.args.pointed.now c.each.mark-index _ s r (omega arith) c.added_by-sum.ensures) ∙ c.each.invariant.rest);
      least = rw e (omega (arith, ints));
      most = rw e (omega (arith, ints));
    }
