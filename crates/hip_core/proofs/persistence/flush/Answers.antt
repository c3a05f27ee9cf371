use Rattle.hip_runs.specs.Actions.{Flushes}
use Rattle.hip_core.proofs.OtherArms.{flushes, range_halts}
use Rattle.hip_core.proofs.persistence.flush.Goals as goal

pub returns-in-Ok-clause-does : goal.returns-in-Ok-clause-does
returns-in-Ok-clause-does c = flushes c.args.addr 1 c.in-Ok.ensures.ok c.move_on.ensures

pub returns-in-Err-clause-does : goal.returns-in-Err-clause-does
returns-in-Err-clause-does c = range_halts c.args.addr 1 c.in-Err.kind (Flushes c.args.addr 1) c.in-Err.ensures.trap c.halt.ensures.event c.halt.ensures.core
