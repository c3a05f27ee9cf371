use Rattle.std.proofs.Common.{refl}
use Rattle.hip_typing.proofs.NameLists.{one_more_name}
use Rattle.hip_typing.proofs.rules.named.push_externs.Goals as goal

pub externs-preserved : goal.externs-preserved
externs-preserved c = rw c.in_ok-push.ensures.ok (one_more_name _ _ _ _ c.index-externs-number.result _ _ c.externs-test.true c.index-externs-number.is c.externs.invariant (rw (c.as_slice.ensures, ← c.index-externs-number.is) refl))
