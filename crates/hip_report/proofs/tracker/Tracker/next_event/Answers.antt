use Rattle.std.proofs.Common.{inl, refl}
use Rattle.hip_runner.proofs.Quietly.{no_steps}
use Rattle.hip_report.proofs.tracker.Tracker.next_event.Goals as goal

pub returns-then-self-clause-err : goal.returns-then-self-clause-err
returns-then-self-clause-err c = record { before = c.args.machine.now; quiet = no_steps c.args.machine.now; is = inl refl }
