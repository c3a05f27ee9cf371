use Rattle.std.proofs.Common.{None, Some, ap, ◌∙◌}
use Rattle.hip_repairs.specs.Repaired.{clone_name}
use Rattle.hip_fix.proofs.CloneNames.{clone_at}
use Rattle.hip_fix.proofs.clone_table.CloneTable.clone_name.Goals as goal

pub returns-in-Some : goal.returns-in-Some
returns-in-Some c =
    let t = c.self.inside in
    c.name_at.ensures
    ∙ clone_at t.program.now t.originals.now t.names.now c.args.name.now t.places.names t.places.values c.self.invariant (Some c.in-Some.place) c.in-Some.ensures
    ∙ ap (λ clones. clone_name clones c.args.name.now) c.self.view_is

pub returns-in-None : goal.returns-in-None
returns-in-None c =
    let t = c.self.inside in
    clone_at t.program.now t.originals.now t.names.now c.args.name.now t.places.names t.places.values c.self.invariant None c.in-None.ensures
    ∙ ap (λ clones. clone_name clones c.args.name.now) c.self.view_is
