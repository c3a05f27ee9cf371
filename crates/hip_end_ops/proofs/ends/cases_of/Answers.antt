use Rattle.std.proofs.Common.{[], refl, subst, sym}
use Rattle.hip_scope.specs.Grown.{grown}
use Rattle.hip_end_ops.specs.Switched.{HasCases}
use Rattle.hip_end_ops.proofs.EndOps.{cases_none, cases_on, cases_all}
use Rattle.hip_end_ops.proofs.ends.cases_of.Goals as goal

pub switching-init : goal.switching-init
switching-init c = record {
  cases = subst (λ xs. HasCases c.args.scope.now (grown c.args.tables.now) (grown c.args.tables.now) c.args.source.now xs []) (sym c.new-found.ensures)
      (cases_none c.args.scope.now c.args.source.now (grown c.args.tables.now) c.requires.lead);
}

pub switching-preserved : goal.switching-preserved
switching-preserved c = record {
  cases = cases_on c.args.scope.now c.args.source.now _ _ _ _ _ c.args.cases.now c.switching.index (record { value = _; edge = c.in_ok-edge.edge }) c.index-cases-index.result c.switching.invariant.cases c.in_ok-edge.ensures refl c.in_ok-push.ensures.ok
      c.switching-test.true c.index-cases-index.is;
}

pub returns : goal.returns
returns c = cases_all c.args.scope.now c.args.source.now _ _ _ c.args.cases.now c.switching.index c.switching-test.false c.switching.invariant.cases
