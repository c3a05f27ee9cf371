use Rattle.hip_vol.specs.Numbered.{IsBelowAll}
use Rattle.hip_vol.proofs.Rising.{so_far}
use Rattle.hip_vol.proofs.propagation.sweep.Given as goal

abbrev pub invariant-each : goal.invariant-each
invariant-each l = record { below : IsBelowAll l.rules l.levels; swept : so_far l.rose l.initial.levels l.levels l.rules l.rule-index }
