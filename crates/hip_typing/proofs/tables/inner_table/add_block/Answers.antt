use Rattle.std.proofs.Common.{[], ◌∷◌}
use Rattle.hip_typing.proofs.InnerLemmas.{gains_then}
use Rattle.hip_typing.proofs.tables.inner_table.add_block.Goals as goal

pub returns : goal.returns
returns c =
    rw (← c.as_slice.ensures, ← c.as_slice-2.ensures)
    (gains_then (_ ∷ []) _ c.in_ok-add_name.ensures (gains_then _ _ c.in_ok-add_phis.ensures c.in_ok-add_body.ensures))
