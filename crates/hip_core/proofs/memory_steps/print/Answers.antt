use Rattle.std.proofs.Common.{ap, ◌∙◌}
use Rattle.std.specs.Int.{w64}
use Rattle.std.proofs.lemmas.Int.{to_z-of_z}
use Rattle.hip_types.specs.Numbers.{signed}
use Rattle.hip_types.specs.declared.number.Width.TheVariants.{W64}
use Rattle.hip_runs.specs.declared.event.Event.TheVariants as events
use Rattle.hip_core.proofs.OtherArms.{prints}
use Rattle.hip_core.proofs.memory_steps.print.Goals as goal

pub returns-clause-does : goal.returns-clause-does
returns-clause-does c = prints (signed W64 c.args.value) (ap events.Print (to_z-of_z w64 c.as_signed.result c.as_signed.ensures.fits ∙ c.as_signed.ensures.value)) c.pass.ensures
