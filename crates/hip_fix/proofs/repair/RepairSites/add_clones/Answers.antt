use Rattle.std.proofs.Common.{◌<◌, ◌+◌, drop, get_or, length, refl, ap, ◌∙◌, arith}
use Rattle.hip_repairs.specs.Repaired.{clone_functions}
use Rattle.hip_fix.specs.Walk.{marked_clones, wanted_in, with_functions}
use Rattle.hip_fix.proofs.Walks.{made_clones_next}
use Rattle.hip_fix.proofs.repair.RepairSites.add_clones.Goals as goal

pub each-preserved : goal.each-preserved
each-preserved c =
    let r = c.args.self.now in
    let P = c.args.program.now in
    let k = c.each.place in
    let fs = c.args.originals.now in
    let names = c.args.names.now in
    let within : k < length names = omega (arith, c.requires, c.each-test.true) in
    ap (λ made. with_functions made (clone_functions P r.clones (wanted_in r) (drop (k + 1) fs) (drop (k + 1) names)) (marked_clones P r.clones (wanted_in r) (drop (k + 1) fs))) c.in_ok-add_clone.ensures
    ∙ made_clones_next r.clones (wanted_in r) P c.each.made k fs names (get_or fs k 0) 0 c.index-names-place.result c.index-names-place.result c.each-test.true within refl c.index-names-place.is
    ∙ c.each.invariant
