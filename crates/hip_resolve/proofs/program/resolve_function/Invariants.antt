use Rattle.std.proofs.Common.{◌≡◌, length}
use Rattle.hip_code.specs.Entries.{entry}
use Rattle.hip_scope.specs.Grown.{grown}
use Rattle.hip_resolve.specs.Made.{IsFront}
use Rattle.hip_resolve.proofs.program.resolve_function.Given as goal

pub record Invariant (l : goal.Live-resolving) : Type 0 where
  pub front : IsFront l.scope.program.now l.scope.base l.ops (grown l.tables)
  pub place : length l.ops ≡ entry l.scope.program.now l.scope.number l.number

abbrev pub invariant-resolving : goal.invariant-resolving
invariant-resolving l = Invariant l
