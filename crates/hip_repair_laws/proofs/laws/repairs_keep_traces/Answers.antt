use Rattle.hip_repair_laws.proofs.Traces.{keeps_traces}
use Rattle.hip_repair_laws.proofs.laws.repairs_keep_traces.Goals as goal

pub returns : goal.returns
returns c = keeps_traces
