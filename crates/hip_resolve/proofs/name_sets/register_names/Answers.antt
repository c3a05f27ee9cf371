use Rattle.hip_resolve.proofs.Scoped.{function_met}
use Rattle.hip_resolve.proofs.name_sets.register_names.Goals as goal

pub returns : goal.returns
returns c =
    rw (c.in_ok-add_blocks.ensures, c.as_slice-2.ensures, c.in_ok-add_params.ensures, c.as_slice.ensures, c.new-names.ensures)
    (function_met c.args.function.now c.requires.differ)
