use Rattle.hip_demo.proofs.Replaying.{found_if, trace_of_kept}
use Rattle.hip_demo.proofs.shown.find.Goals as goal

pub returns : goal.returns
returns c =
    found_if c.args.checked.now c.args.input.now c.in_ok-text.field-0.text c.replay_text.result
    (trace_of_kept c.args.checked.now c.args.input.now c.in_ok-text.field-0
    (c.written_traces_are_read_back.ensures c.args.checked.now c.program-program.ensures.sound c.args.input.now
    c.requires.input c.requires.valid) c.in_ok-text.ensures)
    c.replay_text.ensures
