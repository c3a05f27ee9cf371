use Rattle.std.proofs.Common.{arith}
use Rattle.hip_resolve.proofs.Walks.{few_assigned, one_assigned}
use Rattle.hip_resolve.proofs.extents.assigned.Goals as goal

pub overflow_add-count : goal.overflow_add-count
overflow_add-count c =
    let small = c.well_formed.0.0 in
    let within = c.each-test.true in
    let count = c.each.invariant in
    let few = few_assigned c.args.body.now c.each.instr-index in
    let more = c.assigns-count.ensures in
    let one = one_assigned c.instr-item.result in
    omega (arith, small, within, count, few, more, one)
