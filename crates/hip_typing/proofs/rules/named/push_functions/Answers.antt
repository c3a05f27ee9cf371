use Rattle.std.proofs.Common.{refl}
use Rattle.hip_typing.proofs.NameLists.{one_more_name}
use Rattle.hip_typing.proofs.rules.named.push_functions.Goals as goal

pub functions-preserved : goal.functions-preserved
functions-preserved c = rw c.in_ok-push.ensures.ok (one_more_name _ _ _ _ c.index-functions-number.result _ _ c.functions-test.true c.index-functions-number.is c.functions.invariant (rw (c.as_slice.ensures, ← c.index-functions-number.is) refl))
