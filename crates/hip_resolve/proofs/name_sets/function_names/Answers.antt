use Rattle.hip_sound.specs.NumberedNames.{function_names}
use Rattle.hip_resolve.proofs.Scoped.{all_met, functions_differ}
use Rattle.hip_resolve.proofs.name_sets.function_names.Goals as goal

pub returns : goal.returns
returns c =
    rw (c.in_ok-add_functions.ensures, c.as_slice.ensures, c.new-names.ensures)
    (all_met (function_names c.args.program.now.functions) (functions_differ c.args.program.now c.requires))
