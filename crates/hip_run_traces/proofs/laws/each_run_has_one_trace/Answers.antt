use Rattle.hip_run_traces.specs.Laws.TraceLaws.{whole-trace, one-trace, whole-front}
use Rattle.hip_run_traces.proofs.laws.each_run_has_one_trace.Goals as goal

pub returns-clause-there : goal.returns-clause-there
returns-clause-there c = whole-trace

pub returns-clause-one : goal.returns-clause-one
returns-clause-one c = one-trace

pub returns-clause-front : goal.returns-clause-front
returns-clause-front c = whole-front
