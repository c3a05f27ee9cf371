use Rattle.std.proofs.Common.{ap}
use Rattle.hip_names.specs.Names.{is_among}
use Rattle.hip_typing.proofs.KnownLemmas.{knows_more, knows_all}
use Rattle.hip_typing.proofs.rules.globals.names_of_globals.Goals as goal

pub globals-init : goal.globals-init
globals-init c = λ name. ap (λ ns. is_among ns name) c.new-names.ensures

pub globals-preserved : goal.globals-preserved
globals-preserved c =
    let new = rw c.as_slice.ensures at c.in_ok-_is_new.ensures.new in
    let grown = rw c.as_slice.ensures at c.in_ok-_is_new.ensures.names in
    knows_more (λ x. x.name) c.args.globals.now c.globals.global-index c.global-item.result c.globals.names c.insert.new.self c.in_ok-_is_new._is_new c.globals-test.true c.global-item.is c.globals.invariant new grown

pub returns : goal.returns
returns c = knows_all (λ x. x.name) c.args.globals.now c.globals.global-index c.globals.names c.globals-test.false c.globals.invariant
