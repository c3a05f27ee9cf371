use Rattle.hip_calls.proofs.CallLaws as laws
use Rattle.hip_calls.proofs.laws.callees_are_reached.Goals as goal

pub returns : goal.returns
returns c = laws.callees_reached
