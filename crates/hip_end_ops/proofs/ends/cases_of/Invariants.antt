use Rattle.std.proofs.Common.{take}
use Rattle.hip_scope.specs.Grown.{grown}
use Rattle.hip_end_ops.specs.Switched.{HasCases}
use Rattle.hip_end_ops.proofs.ends.cases_of.Given as goal

pub record Invariant (l : goal.Live-switching) : Type 0 where
  pub cases : HasCases l.scope (grown l.initial.tables) (grown l.tables) l.source l.found (take l.index l.cases)

abbrev pub invariant-switching : goal.invariant-switching
invariant-switching l = Invariant l
