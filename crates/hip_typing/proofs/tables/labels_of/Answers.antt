use Rattle.std.proofs.Common.{ap}
use Rattle.hip_names.specs.Names.{is_among}
use Rattle.hip_typing.proofs.KnownLemmas.{knows_more, knows_all}
use Rattle.hip_typing.proofs.tables.labels_of.Goals as goal

pub each-init : goal.each-init
each-init c = λ name. ap (λ ns. is_among ns name) c.new-labels.ensures

pub each-preserved : goal.each-preserved
each-preserved c =
    let new = rw c.as_slice.ensures at c.in_ok-_is_new.ensures.new in
    let grown = rw c.as_slice.ensures at c.in_ok-_is_new.ensures.names in
    knows_more (λ x. x.label) c.args.blocks.now c.each.block-index c.block-item.result c.each.labels c.insert.new.self c.in_ok-_is_new._is_new c.each-test.true c.block-item.is c.each.invariant new grown

pub returns : goal.returns
returns c = knows_all (λ x. x.label) c.args.blocks.now c.each.block-index c.each.labels c.each-test.false c.each.invariant
