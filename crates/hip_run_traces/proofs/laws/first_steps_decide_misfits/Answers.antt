use Rattle.hip_run_traces.specs.Laws.MisfitLaws.{differs-past, step-differs}
use Rattle.hip_run_traces.proofs.laws.first_steps_decide_misfits.Goals as goal

pub returns-clause-here : goal.returns-clause-here
returns-clause-here c = differs-past

pub returns-clause-longer : goal.returns-clause-longer
returns-clause-longer c = step-differs
