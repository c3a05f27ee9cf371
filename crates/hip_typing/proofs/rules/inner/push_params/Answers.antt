use Rattle.std.proofs.Common.{refl}
use Rattle.hip_typing.proofs.NameLists.{one_more}
use Rattle.hip_typing.proofs.rules.inner.push_params.Goals as goal

pub params-preserved : goal.params-preserved
params-preserved c =
    rw c.in_ok-push.ensures.ok (one_more _ _ _ _ c.index-params-number.result _ _ c.params-test.true c.index-params-number.is c.params.invariant (rw (c.as_slice.ensures, ← c.index-params-number.is) refl))
