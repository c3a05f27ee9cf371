use Rattle.std.proofs.Common.{refl, sym, ◌∙◌}
use Rattle.hip_typing.proofs.CarriedLemmas.{edge_differs, edge_more}
use Rattle.hip_typing.proofs.places.edges.operands_by_label.Goals as goal

pub returns-then-not-carries : goal.returns-then-not-carries
returns-then-not-carries c =
    edge_differs c.args.edges.now c.each.edge-index c.edge-item.result c.each-test.true c.edge-item.is c.each.invariant
    (rw (← c.as_slice.ensures, ← c.get.ensures) (sym c.carries.ensures ∙ c.if-not-carries.true))

pub each-preserved : goal.each-preserved
each-preserved c =
    edge_more c.args.edges.now c.each.edge-index c.edge-item.result c.each-test.true c.edge-item.is c.each.invariant c.in_ok-add.ensures.ok c.as_slice-in-each.ensures refl
    (rw (← c.as_slice.ensures, ← c.get.ensures) (sym c.carries.ensures ∙ c.if-not-carries.false))
