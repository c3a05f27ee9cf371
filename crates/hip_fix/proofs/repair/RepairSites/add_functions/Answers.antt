use Rattle.std.proofs.Common.{◌+◌, drop, ap, ◌∙◌}
use Rattle.hip_repairs.specs.Repaired.{repaired_functions}
use Rattle.hip_fix.specs.Walk.{marked_functions, wanted_in, with_functions}
use Rattle.hip_fix.proofs.Walks.{made_functions_next}
use Rattle.hip_fix.proofs.repair.RepairSites.add_functions.Goals as goal

pub each-preserved : goal.each-preserved
each-preserved c =
    let r = c.args.self.now in
    let k = c.each.number in
    let xs = c.args.functions.now in
    ap (λ made. with_functions made (repaired_functions r.clones (wanted_in r) (k + 1) (drop (k + 1) xs)) (marked_functions r.clones (wanted_in r) (k + 1) (drop (k + 1) xs))) c.in_ok-add_function.ensures
    ∙ made_functions_next r.clones (wanted_in r) c.each.made k xs c.index-functions-number.result c.each-test.true c.index-functions-number.is
    ∙ c.each.invariant
