use Rattle.hip_resolve.proofs.Scoped.{block_met}
use Rattle.hip_resolve.proofs.name_sets.add_block.Goals as goal

pub returns : goal.returns
returns c = rw (c.in_ok-add_body.ensures, c.as_slice-2.ensures, c.in_ok-add_phis.ensures, c.as_slice.ensures) (block_met c.args.names.now c.args.block.now)
