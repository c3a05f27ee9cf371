use Rattle.hip_report.proofs.single_steps.step_generally.Goals as goal

pub look-requires : goal.look-requires
look-requires c = c.requires.noted.recent

pub note_step-requires : goal.note_step-requires
note_step-requires c = record {
  before = c.args.machine.now;
  takes = record { step = c.in_ok-event.ensures.ok; event = c.in_ok-event.ensures.event };
  tracks = c.requires;
  sees = c.in_ok-sight.ensures;
}
