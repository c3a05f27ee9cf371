use Rattle.hip_typing.proofs.ArrivalLemmas.{arrives_nothing, arrives_more}
use Rattle.hip_typing.proofs.tables.predecessors.Predecessors.add_cases.Goals as goal

pub each-init : goal.each-init
each-init c = arrives_nothing _

pub each-preserved : goal.each-preserved
each-preserved c =
    arrives_more (λ d. d.label) c.args.cases.now c.each.case-index c.case-item.result c.args.from.now c.each-test.true c.case-item.is c.each.invariant (rw (← c.as_slice.ensures) c.in_ok-add.ensures)
