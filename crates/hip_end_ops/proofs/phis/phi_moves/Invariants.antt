use Rattle.std.proofs.Common.{take}
use Rattle.hip_end_ops.specs.Edged.{PutsMoves}
use Rattle.hip_scope.specs.Grown.{grown}
use Rattle.hip_end_ops.proofs.phis.phi_moves.Given as goal

abbrev pub invariant-moving : goal.invariant-moving
invariant-moving l = PutsMoves l.scope (grown l.initial.tables) (grown l.tables) l.from (take l.index l.phis)
