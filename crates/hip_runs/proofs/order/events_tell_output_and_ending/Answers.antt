use Rattle.hip_runs.proofs.order.events_tell_output_and_ending.Goals as goal
use Rattle.hip_runs.specs.Laws.OutputLaws.{run_stated}

pub returns-clause-output : goal.returns-clause-output
returns-clause-output c = λ P I n. (run_stated P I n).output

pub returns-clause-ending : goal.returns-clause-ending
returns-clause-ending c = λ P I n. (run_stated P I n).ending
