use Rattle.hip_repair_answers.specs.Laws.Repairs.{reruns_are_traces}
use Rattle.hip_repair_answers.proofs.laws.reruns_are_traces.Goals as goal

pub returns : goal.returns
returns c = reruns_are_traces
