use Rattle.hip_typing.specs.Seen.Tables.{extern_entry}
use Rattle.hip_typing.proofs.CalleeLemmas.{callees_one}
use Rattle.hip_typing.proofs.tables.callees.add_externs.Goals as goal

pub each-preserved : goal.each-preserved
each-preserved c =
    callees_one extern_entry c.args.externs.now c.each.external-index c.external-item.result c.each-test.true c.external-item.is c.each.invariant c.in_ok-add_extern.ensures
