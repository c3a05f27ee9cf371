use Rattle.hip_types.specs.Areas.{volatile_start}
use Rattle.hip_globals.proofs.AddressLists.{laid_persistent, laid_volatile, persistent_within, volatile_within}
use Rattle.hip_globals.proofs.table.address_table.Goals as goal
use Rattle.hip_globals.proofs.table.address_table.Goals.{then-global+in_ok-persistent, else-global+in_ok-volatile}

pub lay-requires-clause-end : goal.lay-requires-clause-end
lay-requires-clause-end c = persistent_within c.args.base volatile_start c.globals.persistent c.globals.volatile c.args.globals.now c.globals.index c.index-globals-index.result c.globals.invariant c.globals-test.true c.index-globals-index.is c.if-global.true c.requires.persistent

pub lay-requires-else-global-clause-end : goal.lay-requires-else-global-clause-end
lay-requires-else-global-clause-end c = volatile_within c.args.base volatile_start c.globals.persistent c.globals.volatile c.args.globals.now c.globals.index c.index-globals-index.result c.globals.invariant c.globals-test.true c.index-globals-index.is c.if-global.false c.requires.volatile

pub globals-preserved : goal.globals-preserved
globals-preserved c = elim c.if-global.branch [
  | then-global+in_ok-persistent w ↦
      rw (w.table-is, w.persistent-is, w.volatile-is, w.in_ok-persistent.ensures.end)
      (laid_persistent c.args.base volatile_start c.globals.persistent c.globals.volatile c.args.globals.now c.globals.index c.index-globals-index.result c.globals.invariant c.globals-test.true c.index-globals-index.is w.if-global.true w.in_ok-persistent.ensures.table)
  | else-global+in_ok-volatile w ↦
      rw (w.table-is, w.persistent-is, w.volatile-is, w.in_ok-volatile.ensures.end)
      (laid_volatile c.args.base volatile_start c.globals.persistent c.globals.volatile c.args.globals.now c.globals.index c.index-globals-index.result c.globals.invariant c.globals-test.true c.index-globals-index.is w.if-global.false w.in_ok-volatile.ensures.table)
]
