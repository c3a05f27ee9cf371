use Rattle.hip_typing.specs.Seen.Tables.{function_entry}
use Rattle.hip_typing.proofs.CalleeLemmas.{callees_one}
use Rattle.hip_typing.proofs.tables.callees.add_functions.Goals as goal

pub each-preserved : goal.each-preserved
each-preserved c =
    callees_one function_entry c.args.functions.now c.each.function-index c.function-item.result c.each-test.true c.function-item.is c.each.invariant c.in_ok-add_function.ensures
