use Rattle.hip_demo.proofs.Inputs.{is_input}
use Rattle.hip_demo.proofs.shown.show_generated.Goals as goal

pub find-requires-clause-input : goal.find-requires-clause-input
find-requires-clause-input c =
    is_input c.args.seed c.args.size c.in_ok-checked.checked _ c.in_ok-input.input c.in_ok-checked.ensures c.new.ensures
    c.in_ok-input.ensures.is
