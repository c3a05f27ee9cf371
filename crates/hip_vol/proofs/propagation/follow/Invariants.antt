use Rattle.hip_vol.specs.Numbered.{HasRisen, IsBelowAll}
use Rattle.hip_vol.proofs.propagation.follow.Given as goal

abbrev pub invariant-chain : goal.invariant-chain
invariant-chain l = record {
  below : IsBelowAll l.rules l.levels;
  risen : HasRisen l.initial.queue l.initial.levels l.queue l.levels;
}

abbrev pub decreases-chain : goal.decreases-chain
decreases-chain l = l.next
