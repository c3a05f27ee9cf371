use Rattle.hip_objects.proofs.Places.{ends-within, one-laid, one-left-out, same-true, same-false}
use Rattle.std.proofs.Common.{arith}
use Rattle.hip_objects.proofs.globals.places.Goals as goal
use Rattle.hip_objects.proofs.globals.places.Goals.{then-global-persistent+in_ok-at, else-global-persistent}

pub lay-requires-clause-end : goal.lay-requires-clause-end
lay-requires-clause-end c =
    let within = ends-within c.globals.invariant c.index-globals-number.result c.globals-test.true c.index-globals-number.is (same-true _ _ c.if-global-persistent.true) in
    omega (arith, within, c.requires.end)

pub globals-preserved : goal.globals-preserved
globals-preserved c = elim c.if-global-persistent.branch [
  | then-global-persistent+in_ok-at w ↦
      rw (w.places-is, w.at-is, w.in_ok-at.ensures.end, w.in_ok-at.ensures.places)
      (one-laid c.globals.invariant c.index-globals-number.result c.globals-test.true c.index-globals-number.is (same-true _ _ w.if-global-persistent.true))
  | else-global-persistent w ↦
      rw (w.places-is, w.at-is)
      (one-left-out c.globals.invariant c.index-globals-number.result c.globals-test.true c.index-globals-number.is (same-false _ _ w.if-global-persistent.false))
]
