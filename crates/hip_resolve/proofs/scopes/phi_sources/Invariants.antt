use Rattle.hip_resolve.proofs.Scoped.{SourcesTo}
use Rattle.hip_resolve.proofs.scopes.phi_sources.Given as goal

abbrev pub invariant-each : goal.invariant-each
invariant-each l = SourcesTo l.sources l.blocks l.index
