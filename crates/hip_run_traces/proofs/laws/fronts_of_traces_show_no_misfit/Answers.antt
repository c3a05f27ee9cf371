use Rattle.hip_run_traces.proofs.laws.fronts_of_traces_show_no_misfit.Goals as goal
use Rattle.hip_run_traces.specs.Laws.MisfitLaws.{run-front}

pub returns : goal.returns
returns c P I n bytes more e k valid split m = run-front P I n bytes more e k valid split m
