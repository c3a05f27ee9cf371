use Rattle.hip_run_traces.specs.Laws.MisfitLaws.{front-misfit}
use Rattle.hip_run_traces.proofs.laws.first_bytes_decide_misfits.Goals as goal

pub returns : goal.returns
returns c = front-misfit
