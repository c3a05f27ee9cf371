use Rattle.hip_typing.proofs.ArrivalLemmas.{arrives_then}
use Rattle.hip_typing.proofs.tables.predecessors.Predecessors.add_block.Goals as goal

pub returns : goal.returns
returns c =
    rw (← c.of_end-targets.ensures, ← c.as_slice-from.ensures)
    (arrives_then _ _ _ c.in_ok-add_target.ensures (arrives_then _ _ _ c.in_ok-add_target-2.ensures c.in_ok-add_cases.ensures))
