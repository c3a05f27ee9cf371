use Rattle.std.proofs.Common.{◌≡◌}
use Rattle.hip_code.specs.Entries.{entry_of}
use Rattle.hip_scope.specs.Listed.{Lists}
use Rattle.hip_resolve.proofs.scopes.starts_of.Given as goal

pub record Invariant (l : goal.Live-each) : Type 0 where
  pub next : l.next ≡ entry_of l.functions l.index 0
  pub listed : Lists l.starts l.index (λ g. entry_of l.functions g 0)

abbrev pub invariant-each : goal.invariant-each
invariant-each l = Invariant l
