use Rattle.hip_typing.proofs.CalleeLemmas.{callees_then, finds_callees}
use Rattle.hip_typing.proofs.tables.callees.callees_of.Goals as goal

pub returns : goal.returns
returns c =
    finds_callees c.args.program.now c.new-table.ensures
    (rw (← c.as_slice.ensures, ← c.as_slice-2.ensures) (callees_then _ _ c.in_ok-add_externs.ensures c.in_ok-add_functions.ensures))
