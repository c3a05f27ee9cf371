use Rattle.std.proofs.Common.{◌≡◌, ◌++◌, ◌^◌, ◌<◌, OnOk, sym, subst, arith}
use Rattle.std.specs.Fmt.{decimal}
use Rattle.hip_calls.specs.Fresh.{numeral}
use Rattle.hip_calls.specs.Laws.FreshLaws.{numeral-decimal}
use Rattle.hip_calls.proofs.fresh.add_number.Goals as goal

pub returns : goal.returns
returns c =
    let small : c.args.number < 10 ^ 64 = omega arith in
    let e : numeral c.args.number ≡ decimal c.args.number = numeral-decimal c.args.number small in
    subst (λ ds. OnOk c.extend_from_slice.result (c.extend_from_slice.new.self ≡ c.args.text.now ++ ds)) (sym e) (rw (← c.natural_into-len.ensures.text) c.extend_from_slice.ensures.ok)
