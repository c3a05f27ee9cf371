use Rattle.hip_runs.specs.Actions.{Persists}
use Rattle.hip_core.proofs.OtherArms.{persists, range_halts}
use Rattle.hip_core.proofs.persistence.persist.Goals as goal

pub returns-in-Ok-clause-does : goal.returns-in-Ok-clause-does
returns-in-Ok-clause-does c = persists c.args.addr c.args.size c.in-Ok.ensures.ok c.move_on.ensures

pub returns-in-Err-clause-does : goal.returns-in-Err-clause-does
returns-in-Err-clause-does c = range_halts c.args.addr c.args.size c.in-Err.kind (Persists c.args.addr c.args.size) c.in-Err.ensures.trap c.halt.ensures.event c.halt.ensures.core
