use Rattle.std.proofs.Common.{◌∷◌, [], length, map, ap, arith, subst}
use Rattle.std.proofs.lemmas.List.{length-append}
use Rattle.std.proofs.lemmas.Option.{slice_get_within}
use Rattle.hip_names.specs.Numbered.{NumbersNames}
use Rattle.hip_end_ops.proofs.EdgeOps.{numbers_on}
use Rattle.hip_resolve.proofs.phi_numbers.numbers_of_phis.Goals as goal

pub each-init : goal.each-init
each-init c = record { as_long = ap length c.new-tables.ensures; numbers = λ j p lt h. absurd (let q : ⊥ = omega (arith, lt) in q) }

pub each-preserved : goal.each-preserved
each-preserved c =
    let long = ap length c.in_ok-push.ensures.ok in
    record {
      as_long = (let l = length-append c.each.tables (c.in_ok-table.table ∷ []) in let k = c.each.invariant.as_long in omega (arith, long, l, k));
      numbers = numbers_on c.each.tables c.push.new.self c.in_ok-table.table c.args.phis.now c.each.number c.index-phis-number.result c.each.invariant.numbers c.each.invariant.as_long c.in_ok-push.ensures.ok c.index-phis-number.is
          (subst (λ es. NumbersNames c.in_ok-table.table.names c.in_ok-table.table.values (map (λ e. e.label) es)) c.as_slice.ensures c.in_ok-table.ensures);
    }

pub returns : goal.returns
returns c = record { at = λ k p h. c.each.invariant.numbers k p (let w = slice_get_within c.args.phis.now k p h in let e = c.each-test.false in omega (arith, w, e)) h }
