use Rattle.hip_sound.specs.Rules.{edge_register_uses}
use Rattle.hip_typing.proofs.UseLists.{carries_whole, flat_on, flat_refused, flat_end}
use Rattle.hip_typing.proofs.assigned.functions.verify_phi.Goals as goal

pub each-init : goal.each-init
each-init c = rw c.as_slice-edges.ensures (carries_whole c.args.body.now.function.now _)

pub each-preserved : goal.each-preserved
each-preserved c =
    flat_on c.args.body.now.function.now _ (edge_register_uses c.args.body.now.function.now.blocks c.args.place c.args.phi.now.ty) c.as_slice-edges.result.now c.each.index c.index-edges-index.result c.each-test.true c.index-edges-index.is c.in_default.ensures c.each.invariant

pub returns-in-Err : goal.returns-in-Err
returns-in-Err c =
    flat_refused c.args.body.now.function.now _ (edge_register_uses c.args.body.now.function.now.blocks c.args.place c.args.phi.now.ty) c.as_slice-edges.result.now c.each.index c.index-edges-index.result c.in-Err.refused c.each-test.true c.index-edges-index.is c.in-Err.ensures c.each.invariant

pub returns : goal.returns
returns c = flat_end c.args.body.now.function.now _ (edge_register_uses c.args.body.now.function.now.blocks c.args.place c.args.phi.now.ty) c.as_slice-edges.result.now c.each.index c.each-test.false c.each.invariant
