use Rattle.hip_run_traces.specs.Laws.MisfitLaws.{past-header, no-misfit, one-misfit}
use Rattle.hip_run_traces.proofs.laws.misfits_are_one.Goals as goal

pub returns-clause-entry : goal.returns-clause-entry
returns-clause-entry c = λ P bytes whole e e' k k' m m'. (one-misfit P bytes whole e e' k k' m m').0

pub returns-clause-kind : goal.returns-clause-kind
returns-clause-kind c = λ P bytes whole e e' k k' m m'. (one-misfit P bytes whole e e' k k' m m').1

pub returns-clause-none : goal.returns-clause-none
returns-clause-none c = no-misfit

pub returns-clause-after : goal.returns-clause-after
returns-clause-after c = past-header
