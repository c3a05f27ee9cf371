use Rattle.hip_runner.proofs.Acted.{shown_out}
use Rattle.hip_runner.proofs.actions.persist.Goals as goal

pub returns-in-Ok-clause-some : goal.returns-in-Ok-clause-some
returns-in-Ok-clause-some c = shown_out c.args.code.now c.args.core.now c.move_on.new.self c.args.persistence c.in-Ok.event c.in-Ok.ensures c.move_on.ensures
