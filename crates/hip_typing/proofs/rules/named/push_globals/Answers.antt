use Rattle.std.proofs.Common.{refl}
use Rattle.hip_typing.proofs.NameLists.{one_more_name}
use Rattle.hip_typing.proofs.rules.named.push_globals.Goals as goal

pub globals-preserved : goal.globals-preserved
globals-preserved c = rw c.in_ok-push.ensures.ok (one_more_name _ _ _ _ c.index-globals-number.result _ _ c.globals-test.true c.index-globals-number.is c.globals.invariant (rw (c.as_slice.ensures, ← c.index-globals-number.is) refl))
