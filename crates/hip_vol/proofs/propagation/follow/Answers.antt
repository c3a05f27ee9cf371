use Rattle.std.proofs.Common.{arith}
use Rattle.hip_vol.proofs.Rising.{has_at}
use Rattle.hip_vol.proofs.propagation.follow.Goals as goal

pub raise_and_note-requires-clause-one : goal.raise_and_note-requires-clause-one
raise_and_note-requires-clause-one c = has_at c.args.rules.now c.chain.next _ (omega arith)
