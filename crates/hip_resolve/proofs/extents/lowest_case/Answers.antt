use Rattle.std.proofs.Common.{[], ◌∷◌, sym, subst, arith}
use Rattle.hip_tree.specs.declared.block.Case.{Case}
use Rattle.hip_resolve.specs.Extents.{LeadsNoLower}
use Rattle.hip_resolve.proofs.Walks.{case_taken, named_lower, named_more}
use Rattle.hip_resolve.proofs.extents.lowest_case.Goals as goal

pub each-preserved : goal.each-preserved
each-preserved c =
    let l = c.lower-lowest.ensures in
    let below = l.below in
    let before = c.each.invariant.below in
    record {
      below = omega (arith, below, before);
      labels = subst (λ ls. LeadsNoLower c.args.labels.now ls c.lower-lowest.result)
          (sym (case_taken c.args.cases.now c.each.index c.index-cases-index.result c.each-test.true c.index-cases-index.is))
          (named_more (named_lower c.lower-lowest.result c.each.invariant.labels below)
          (subst (λ (x : Case). LeadsNoLower c.args.labels.now (x.label ∷ []) c.lower-lowest.result) (sym c.index-cases-index.is) l.label));
    }
