use Rattle.std.proofs.Common.{refl}
use Rattle.hip_typing.proofs.NameLists.{one_more_name}
use Rattle.hip_typing.proofs.rules.inner.push_phis.Goals as goal

pub phis-preserved : goal.phis-preserved
phis-preserved c =
    rw c.in_ok-push.ensures.ok (one_more_name _ _ _ _ c.index-phis-index.result _ _ c.phis-test.true c.index-phis-index.is c.phis.invariant (rw (c.as_slice.ensures, ← c.index-phis-index.is) refl))
