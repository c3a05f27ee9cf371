use Rattle.hip_end_ops.proofs.EndOps.{ends_cond, lead_kept}
use Rattle.hip_end_ops.proofs.ends.branch_on.Goals as goal

pub returns : goal.returns
returns c = ends_cond _ _ _ _ _ _ _ _ _ _ _ _ c.requires.last c.in_ok-test.ensures.stands c.in_ok-yes.ensures c.in_ok-no.ensures

pub edge-requires-clause-lead : goal.edge-requires-clause-lead
edge-requires-clause-lead c = lead_kept _ _ _ _ _ c.requires.lead c.in_ok-test.ensures.stands.grows c.in_ok-test.ensures.others.edges
