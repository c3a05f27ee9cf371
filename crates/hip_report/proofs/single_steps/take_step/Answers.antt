use Rattle.std.proofs.Common.{Option, subst}
use Rattle.hip_runs.specs.declared.event.Event.{Event}
use Rattle.hip_runner.specs.Actions.{ActsInRun, MayAct}
use Rattle.hip_report.proofs.single_steps.take_step.Goals as goal

pub look_quickly-requires : goal.look_quickly-requires
look_quickly-requires c = c.requires.noted.recent

pub note_step-requires : goal.note_step-requires
note_step-requires c =
    let old = c.args.machine.now in
    let new = c.act_quickly.new.self in
    let a : ActsInRun old new c.in-Some-2.event = subst (λ (o : Option Event). MayAct o old new) c.in-Some-2.is c.in_ok-event.ensures.ok in
    record {
      before = old;
      takes = record { step = a.step; event = a.event };
      tracks = c.requires;
      sees = c.in-Some.ensures;
    }
