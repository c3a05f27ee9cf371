use Rattle.std.proofs.Common.{sym, ◌∙◌}
use Rattle.hip_core.proofs.Arms.{acts_value, acts_value_trap}
use Rattle.hip_core.proofs.values.step_value.Goals as goal

pub returns-in-Ok-clause-acts : goal.returns-in-Ok-clause-acts
returns-in-Ok-clause-acts c = acts_value c.in-Ok.number (sym c.result_here.ensures ∙ c.in-Ok.is) c.assign.ensures.others c.assign.ensures.slots

pub returns-in-Err-clause-acts : goal.returns-in-Err-clause-acts
returns-in-Err-clause-acts c = acts_value_trap c.in-Err.trap (sym c.result_here.ensures ∙ c.in-Err.is) c.stop_at.ensures.event c.stop_at.ensures.core
