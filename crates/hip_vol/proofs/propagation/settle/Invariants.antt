use Rattle.hip_vol.specs.Numbered.{IsBelowAll, room}
use Rattle.hip_vol.proofs.propagation.settle.Given as goal

abbrev pub invariant-sweeps : goal.invariant-sweeps
invariant-sweeps l = IsBelowAll l.rules l.levels

abbrev pub decreases-sweeps : goal.decreases-sweeps
decreases-sweeps l = room l.levels
