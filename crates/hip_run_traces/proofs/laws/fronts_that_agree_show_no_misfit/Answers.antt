use Rattle.hip_run_traces.specs.Laws.MisfitLaws.{front-agrees, front-stops}
use Rattle.hip_run_traces.proofs.laws.fronts_that_agree_show_no_misfit.Goals as goal

pub returns-clause-stops : goal.returns-clause-stops
returns-clause-stops c = front-stops

pub returns-clause-gives : goal.returns-clause-gives
returns-clause-gives c = front-agrees
