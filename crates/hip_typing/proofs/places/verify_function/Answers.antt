use Rattle.std.proofs.Common.{List, subst}
use Rattle.hip_tree.specs.declared.block.Block.{Block}
use Rattle.hip_tree.specs.declared.program.Function.{Function}
use Rattle.hip_typing.specs.Seen.Answers.{Answers}
use Rattle.hip_sound.specs.Requirement.{each}
use Rattle.hip_sound.specs.Places.{scope_of}
use Rattle.hip_sound.specs.Rules.{block_required}
use Rattle.hip_typing.proofs.places.verify_function.Goals as goal

pub returns : goal.returns
returns c =
    let P = c.args.program.now.program.now in
    subst (λ (blocks : List Block). Answers c.verify_blocks.result (each (block_required (scope_of P c.args.function.now) c.args.number) blocks).found) c.as_slice.ensures
    (subst (λ (fn : Function). Answers c.verify_blocks.result (each (block_required (scope_of P fn) c.args.number) c.as_slice.result.now).found) c.in_ok-tables.ensures.function c.verify_blocks.ensures)
