use Rattle.std.proofs.Common.{◌&&◌, nat_eq}
use Rattle.std.specs.HashSet.{contains}
use Rattle.hip_typing.proofs.PairLemmas.{case_repeats, cases_still_differ, case_is_seen}
use Rattle.hip_typing.proofs.places.ends.cases_differ.Goals as goal

pub returns-then-not-is_new : goal.returns-then-not-is_new
returns-then-not-is_new c =
    case_repeats c.args.cases.now c.each.case-index c.case-item.result c.each-test.true c.case-item.is c.bits.result c.bits.ensures (contains (λ x y. nat_eq x.0 y.0 && nat_eq x.1 y.1) c.each.earlier) c.each.invariant.seen c.in_ok-is_new.is_new c.in_ok-is_new.ensures.added c.if-not-is_new.true

pub each-preserved : goal.each-preserved
each-preserved c = record {
  differ = cases_still_differ c.args.cases.now c.each.case-index c.case-item.result c.each-test.true c.case-item.is c.bits.result c.bits.ensures (contains (λ x y. nat_eq x.0 y.0 && nat_eq x.1 y.1) c.each.earlier) c.each.invariant.seen c.in_ok-is_new.is_new c.in_ok-is_new.ensures.added c.if-not-is_new.false c.each.invariant.differ;
  seen = case_is_seen c.args.cases.now c.each.case-index c.case-item.result c.each-test.true c.case-item.is c.bits.result c.bits.ensures (contains (λ x y. nat_eq x.0 y.0 && nat_eq x.1 y.1) c.each.earlier) c.each.invariant.seen (contains (λ x y. nat_eq x.0 y.0 && nat_eq x.1 y.1) c.insert.new.self) c.in_ok-is_new.ensures.updates.0;
}
