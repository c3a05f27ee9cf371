use Rattle.hip_trace.proofs.EndLaws as laws
use Rattle.hip_trace.proofs.laws.readers_end.Goals as goal

pub returns : goal.returns
returns c = laws.readers_end
