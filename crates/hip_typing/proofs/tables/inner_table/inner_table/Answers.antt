use Rattle.std.proofs.Common.{[]}
use Rattle.hip_typing.proofs.InnerLemmas.{gains_then}
use Rattle.hip_typing.proofs.tables.inner_table.inner_table.Goals as goal

pub returns : goal.returns
returns c =
    rw (← c.as_slice.ensures, ← c.as_slice-2.ensures) ((gains_then _ _ c.in_ok-add_params.ensures c.in_ok-add_blocks.ensures).gains [] c.new-table.ensures)
