use Rattle.std.proofs.Common.{◌<◌, ◌∙◌, ap, get_or, length, subst}
use Rattle.std.specs.Int.{w64}
use Rattle.std.specs.Prelude.{pos}
use Rattle.std.proofs.lemmas.Int.{to_z-of_z}
use Rattle.hip_core.proofs.OtherArms.{acts_read}
use Rattle.hip_core.proofs.memory_steps.read_number.Goals as goal

pub returns-then-core-numbers-clause-acts : goal.returns-then-core-numbers-clause-acts
returns-then-core-numbers-clause-acts c =
    let read = c.args.core.now.read in
    acts_read (pos 0) _ (subst (λ xs. read < length xs) c.as_slice-numbers.ensures c.if-core-numbers.true)
    (to_z-of_z w64 c.number_at-number.result c.number_at-number.ensures.fits ∙ c.number_at-number.ensures.value ∙ ap (λ xs. get_or xs read (pos 0)) c.as_slice-numbers.ensures)
    c.take_number.ensures.event c.take_number.ensures.others c.take_number.ensures.slots
