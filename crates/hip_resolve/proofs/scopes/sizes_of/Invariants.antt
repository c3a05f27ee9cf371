use Rattle.std.proofs.Common.{length, slice_get}
use Rattle.hip_code.specs.Frames.{names_in}
use Rattle.hip_scope.specs.Listed.{Lists}
use Rattle.hip_resolve.proofs.scopes.sizes_of.Given as goal

abbrev pub invariant-each : goal.invariant-each
invariant-each l = Lists l.sizes l.index (λ g. length (names_in (slice_get l.functions g)))
