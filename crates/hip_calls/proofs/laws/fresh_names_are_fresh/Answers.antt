use Rattle.hip_calls.proofs.CallLaws as laws
use Rattle.hip_calls.proofs.laws.fresh_names_are_fresh.Goals as goal

pub returns : goal.returns
returns c = laws.names_fresh
