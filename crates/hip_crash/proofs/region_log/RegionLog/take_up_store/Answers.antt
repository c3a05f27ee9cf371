use Rattle.std.proofs.Common.{arith, ◌+◌, ◌∙◌, refl, ap, subst, ◌/◌, ◌^◌, ◌≤◌, ◌<◌, length, sym}
use Rattle.hip_crash.specs.Kept.{Kept}
use Rattle.hip_crash.specs.Now.{now_at}
use Rattle.hip_crash.specs.Region.{seen_at}
use Rattle.hip_crash.specs.PendingChange.{with_waiting}
use Rattle.hip_crash.proofs.Stores.{waits-start, waits-more, waits-within, seen-here, seen-more, seen-end, room-left}
use Rattle.hip_crash.proofs.region_log.RegionLog.take_up_store.Goals as goal

pub parts-init : goal.parts-init
parts-init c = record { low = omega (arith, c.max-first.ensures); waiting = waits-start c.args.stored c.args.from c.max-first.result c.args.self.now.waiting c.requires.waiting c.max-first.ensures; same = λ j. refl }

pub push_in-requires-clause-low : goal.push_in-requires-clause-low
push_in-requires-clause-low c =
    let end : c.end_line-end.result ≤ length c.args.image.now / 64 = c.end_line-end.ensures.within (length c.args.image.now / 64) (omega (arith, c.requires.within, c.requires.room.whole)) in
    omega (arith, end, c.parts-test.true, c.requires.room.small)

pub push_in-requires-clause-within : goal.push_in-requires-clause-within
push_in-requires-clause-within c =
    let end : c.end_line-end.result ≤ length c.args.image.now / 64 = c.end_line-end.ensures.within (length c.args.image.now / 64) (omega (arith, c.requires.within, c.requires.room.whole)) in
    omega (arith, end, c.parts-test.true)

pub push_in-requires-clause-few : goal.push_in-requires-clause-few
unfolding seen_at
push_in-requires-clause-few c =
    let end : c.end_line-end.result ≤ length c.args.image.now / 64 = c.end_line-end.ensures.within (length c.args.image.now / 64) (omega (arith, c.requires.within, c.requires.room.whole)) in
    room-left c.args.stored (now_at c.parts.self.lines c.args.image.now c.parts.line) (with_waiting c.parts.self.waiting c.parts.line (now_at c.parts.self.lines c.args.image.now c.parts.line)) (2 ^ 63)
    (seen-here c.args.stored (c.args.stored.offset / 64) c.end_line-end.result refl c.end_line-end.ensures.lines c.parts.self.waiting c.parts.line (now_at c.parts.self.lines c.args.image.now c.parts.line) c.parts.invariant.low c.parts-test.true c.parts.invariant.waiting)
    (subst (λ (k : Kept). k.least + length k.later < 2 ^ 63) (sym (c.parts.invariant.same c.parts.line)) (c.requires.room.few c.parts.line (omega (arith, end, c.parts-test.true))))

pub returns-in_err-push_in-clause-same : goal.returns-in_err-push_in-clause-same
unfolding seen_at
returns-in_err-push_in-clause-same c = λ j. ap (with_waiting c.parts.self.waiting j) (c.in_err-push_in.ensures.err j) ∙ c.parts.invariant.same j

pub returns-in_err-push_in-clause-within : goal.returns-in_err-push_in-clause-within
returns-in_err-push_in-clause-within c = waits-within c.args.stored c.parts.line c.parts.self.waiting c.args.image.now c.parts.invariant.waiting c.requires.within

pub parts-preserved : goal.parts-preserved
unfolding seen_at
parts-preserved c = record {
  low = omega (arith, c.parts.invariant.low);
  waiting = waits-more c.args.stored c.parts.line _ refl;
  same = λ j. seen-more c.args.stored (c.args.stored.offset / 64) c.end_line-end.result refl c.end_line-end.ensures.lines c.parts.self.waiting _ c.parts.line j (now_at c.parts.self.lines c.args.image.now j) (now_at c.push_in.new.lines c.args.image.now j)
      c.parts.invariant.low c.parts-test.true c.parts.invariant.waiting refl (c.in_ok-push_in.ensures.ok j) ∙ c.parts.invariant.same j;
}

pub returns-clause-same : goal.returns-clause-same
unfolding seen_at
returns-clause-same c = λ j. seen-end c.args.stored (c.args.stored.offset / 64) c.end_line-end.result refl c.end_line-end.ensures.lines c.parts.self.waiting c.parts.line j (now_at c.parts.self.lines c.args.image.now j) c.parts-test.false c.parts.invariant.waiting ∙ c.parts.invariant.same j
