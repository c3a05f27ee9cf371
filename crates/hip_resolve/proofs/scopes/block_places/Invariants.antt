use Rattle.std.proofs.Common.{◌≡◌, ◌+◌}
use Rattle.hip_code.specs.Entries.{entry_in}
use Rattle.hip_scope.specs.Listed.{Lists}
use Rattle.hip_resolve.proofs.scopes.block_places.Given as goal

pub record Invariant (l : goal.Live-each) : Type 0 where
  pub next : l.next ≡ l.start + entry_in l.blocks l.index
  pub listed : Lists l.places l.index (λ b. l.start + entry_in l.blocks b)

abbrev pub invariant-each : goal.invariant-each
invariant-each l = Invariant l
