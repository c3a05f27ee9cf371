-- The set's keys are the old ones and the new one.
use Rattle.hip_plan.proofs.Numbers.{one_number}
use Rattle.hip_sites.proofs.SiteOrder.{number_inserted}
use Rattle.hip_plan.proofs.worth_table.set_of.Goals as goal

pub each-preserved : goal.each-preserved
each-preserved c =
    one_number c.args.numbers.now c.each.number-index _ c.each.set.keys c.insert.new.self.keys c.each-test.true
    (λ n. number_inserted c.each.set.keys c.insert.new.self.keys _ n (c.in_ok-_is_new.ensures.updates.0 n)) c.each.invariant
