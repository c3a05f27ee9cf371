use Rattle.hip_core.proofs.Arms.{traps}
use Rattle.hip_core.proofs.calls.trap.Goals as goal

pub returns-clause-does : goal.returns-clause-does
returns-clause-does c = traps c.stop.new.self c.args.kind c.stop.ensures
