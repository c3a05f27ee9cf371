use Rattle.hip_typing.proofs.RegisterLemmas.{adds_then, finds_all}
use Rattle.hip_typing.proofs.tables.registers.registers_of.Goals as goal

pub returns : goal.returns
returns c =
    let grown = adds_then _ _ c.in_ok-add_params.ensures c.in_ok-add_blocks.ensures in
    rw (← c.as_slice.ensures, ← c.as_slice-2.ensures) (finds_all _ c.new-table.ensures grown)
