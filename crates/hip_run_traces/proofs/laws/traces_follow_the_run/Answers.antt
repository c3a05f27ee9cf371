use Rattle.std.proofs.Common.{Bool, [], ◌++◌, ap, ◌∙◌}
use Rattle.std.specs.Prelude.{if◌then◌else◌}
use Rattle.hip_run_traces.specs.Laws.TraceLaws.{front-trace, length-header_of, length-trace, next-trace, rests-trace}
use Rattle.hip_run_traces.specs.Traces.{entry_list, entry_of_event, trace}
use Rattle.hip_runs.specs.Step.{event, run}
use Rattle.hip_run_traces.proofs.laws.traces_follow_the_run.Goals as goal

pub returns-clause-header : goal.returns-clause-header
returns-clause-header c = length-header_of

pub returns-clause-length : goal.returns-clause-length
returns-clause-length c = length-trace

pub returns-clause-front : goal.returns-clause-front
returns-clause-front c = front-trace

pub returns-clause-step : goal.returns-clause-step
returns-clause-step c =
    λ P I n going. next-trace P I n ∙ ap (λ (b : Bool). trace P I n ++ (if b then [] else entry_list (entry_of_event (event P I (run P I n))))) going

pub returns-clause-rests : goal.returns-clause-rests
returns-clause-rests c = rests-trace
