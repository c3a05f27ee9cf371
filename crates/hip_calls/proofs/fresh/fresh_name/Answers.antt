use Rattle.std.proofs.Common.{◌≡◌, ◌++◌, true, sym, ap, ◌∙◌}
use Rattle.hip_names.specs.Names.{is_among}
use Rattle.hip_calls.specs.Fresh.{candidate}
use Rattle.hip_calls.proofs.FreshSteps.{fresh-next}
use Rattle.hip_calls.proofs.fresh.fresh_name.Goals as goal

pub numbers-preserved : goal.numbers-preserved
numbers-preserved c =
    let taken = c.args.earlier.now.keys ++ c.args.taken.now in
    let met : is_among taken (candidate c.args.name.now c.numbers.number) ≡ true = ap (is_among taken) (sym c.in_ok-text.ensures) ∙ sym c.is_taken.ensures ∙ c.if-not-is_taken.false in
    sym (fresh-next taken c.args.name.now _ c.numbers.number true c.numbers-test.true met) ∙ c.numbers.invariant
