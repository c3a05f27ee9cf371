use Rattle.std.proofs.Common.{get_or, refl}
use Rattle.hip_repairs.specs.declared.plan.CloneOf.{CloneOf}
use Rattle.hip_run_repairs.proofs.SparedCounts.{functions_next, functions_whole}
use Rattle.hip_run_repairs.proofs.spared.cloned_functions.Goals as goal

pub each-preserved : goal.each-preserved
each-preserved c =
    let clones = c.args.clones.now in
    let d : CloneOf = record { original = 0; copy = 0 } in
    functions_next c.each.functions.keys c.insert.new.self.keys clones c.each.clone-index (get_or clones c.each.clone-index d) d c.each-test.true refl c.in_ok-_is_new.ensures.keys c.each.invariant

pub returns : goal.returns
returns c = functions_whole c.each.functions.keys c.args.clones.now c.each.clone-index c.each-test.false c.each.invariant
