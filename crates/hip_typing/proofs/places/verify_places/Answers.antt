use Rattle.std.proofs.Common.{List, subst}
use Rattle.hip_tree.specs.declared.program.Function.{Function}
use Rattle.hip_tree.specs.declared.program.Program.{Program}
use Rattle.hip_typing.specs.Seen.Answers.{Answers}
use Rattle.hip_sound.specs.Requirement.{each}
use Rattle.hip_sound.specs.Rules.{function_required}
use Rattle.hip_typing.proofs.places.verify_places.Goals as goal

pub returns : goal.returns
returns c =
    subst (λ (functions : List Function). Answers c.verify_functions.result (each (function_required c.args.program.now) functions).found) c.as_slice.ensures
    (subst (λ (P : Program). Answers c.verify_functions.result (each (function_required P) c.as_slice.result.now).found) c.in_ok-tables.ensures.program c.verify_functions.ensures)
