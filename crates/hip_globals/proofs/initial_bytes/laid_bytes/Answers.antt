use Rattle.std.proofs.Common.{◌∙◌}
use Rattle.hip_globals.specs.AddressesSeen.{address_beside}
use Rattle.hip_globals.proofs.InitialLemmas.{global_fits, laid_counted, laid_skipped}
use Rattle.hip_globals.proofs.initial_bytes.laid_bytes.Goals as goal
use Rattle.hip_globals.proofs.initial_bytes.laid_bytes.Goals.{then-global-persistent+in_ok-add_global, else-global-persistent}

pub add_global-requires : goal.add_global-requires
add_global-requires c = global_fits c.args.globals.now c.globals.index c.index-globals-index.result c.requires c.globals-test.true c.index-globals-index.is

pub globals-preserved : goal.globals-preserved
globals-preserved c = elim c.if-global-persistent.branch [
  | then-global-persistent+in_ok-add_global w ↦
      laid_counted (address_beside c.args.addresses.now) c.args.persistent c.args.start c.globals.bytes _ c.args.globals.now c.globals.index c.index-globals-index.result c.if-global-persistent.bytes
      c.globals-test.true c.index-globals-index.is w.if-global-persistent.true (w.bytes-is ∙ w.in_ok-add_global.ensures) c.globals.invariant
  | else-global-persistent w ↦
      laid_skipped (address_beside c.args.addresses.now) c.args.persistent c.args.start c.globals.bytes _ c.args.globals.now c.globals.index c.index-globals-index.result c.if-global-persistent.bytes
      c.globals-test.true c.index-globals-index.is w.if-global-persistent.false w.bytes-is c.globals.invariant
]
