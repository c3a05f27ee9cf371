use Rattle.std.proofs.Common.{subst}
use Rattle.hip_scope.specs.PhiNumbers.{NumbersPhis}
use Rattle.hip_resolve.proofs.Scoped.{sources_all, sources_on}
use Rattle.hip_resolve.proofs.scopes.phi_sources.Goals as goal

pub each-preserved : goal.each-preserved
each-preserved c =
    sources_on c.in_ok-tables.tables c.index-blocks-index.result c.each.invariant c.in_ok-push.ensures.ok c.each-test.true c.index-blocks-index.is
    (subst (NumbersPhis c.in_ok-tables.tables) c.as_slice.ensures c.in_ok-tables.ensures)

pub returns : goal.returns
returns c = sources_all c.each.invariant c.each-test.false
