use Rattle.std.proofs.Common.{◌≡◌, ◌+◌, ◌-◌, ◌<◌, ◌^◌, drop, length, ap, arith, sym, subst, ◌∙◌, ℕ}
use Rattle.std.specs.Int.{next_multiple_of}
use Rattle.hip_globals.specs.Addresses.{start_of, end_of, global_start}
use Rattle.hip_globals.proofs.AddressLemmas.{end_of-past, end_of-next, start_of-next, next_at, counted-next, skipped-next, is_persistent-at, beq-same}
use Rattle.hip_globals.proofs.addresses.start_of.Goals as goal
use Rattle.hip_globals.proofs.addresses.start_of.Goals.{then-earlier-persistent+in-Some, else-earlier-persistent}

pub unreachable-requires : goal.unreachable-requires
unreachable-requires c =
    let within : c.each.index < length c.args.globals.now = omega (arith, c.each-test.true, c.requires.there) in
    let past = end_of-past c.args.persistent c.each.at c.args.globals.now c.each.index c.index-globals-index.result within c.index-globals-index.is c.if-earlier-persistent.true in
    c.in-None.ensures (omega (arith, past, c.each.invariant.end, c.requires.end))

pub unreachable-requires-in-None-checked_next_multiple_of : goal.unreachable-requires-in-None-checked_next_multiple_of
unreachable-requires-in-None-checked_next_multiple_of c =
    let gs = c.args.globals.now in
    let g = c.index-globals-number.result in
    let at = c.each.at in
    let index : c.each.index ≡ c.args.number = omega (arith, c.each-test.false, c.each.invariant.within) in
    let one = sym (c.requires.one ∙ is_persistent-at gs c.args.number g c.requires.there c.index-globals-number.is) in
    let past = end_of-past c.args.persistent at gs c.args.number g c.requires.there c.index-globals-number.is (beq-same g.persistent c.args.persistent one) in
    let ends : end_of c.args.persistent at (drop c.args.number gs) ≡ end_of c.args.persistent c.args.start gs = subst (λ (i : ℕ). end_of c.args.persistent at (drop i gs) ≡ end_of c.args.persistent c.args.start gs) index c.each.invariant.end in
    let start : next_multiple_of at c.alignment.result ≡ global_start at g = ap (next_multiple_of at) c.alignment.ensures.value in
    c.in-None-checked_next_multiple_of.ensures (c.alignment.ensures.some, omega (arith, past, ends, start, c.requires.end))

pub each-preserved : goal.each-preserved
each-preserved c =
    let p = c.args.persistent in
    let gs = c.args.globals.now in
    let i = c.each.index in
    let g = c.index-globals-index.result in
    let at = c.if-earlier-persistent.at in
    let within : i < length gs = omega (arith, c.each-test.true, c.requires.there) in
    let next : (at ≡ next_at p c.each.at g) × (at < 2 ^ 64) = elim c.if-earlier-persistent.branch [
      | then-earlier-persistent+in-Some w ↦
          let ends : at ≡ next_at p c.each.at g = w.at-is ∙ w.in-Some.ensures.1 ∙ sym (counted-next p c.each.at g w.if-earlier-persistent.true) in
          (ends, rw w.at-is (omega (arith, w.in-Some.ensures.0, w.in-Some.ensures.1)))
      | else-earlier-persistent w ↦ (w.at-is ∙ sym (skipped-next p c.each.at g w.if-earlier-persistent.false), rw w.at-is c.each.invariant.fits)
    ] in
    record {
      within = omega (arith, c.each-test.true);
      fits = next.1;
      start = ap (λ (m : ℕ). start_of p m (drop (i + 1) gs) (c.args.number - (i + 1))) next.0 ∙ sym (start_of-next p c.each.at gs i c.args.number g c.each-test.true within c.index-globals-index.is) ∙ c.each.invariant.start;
      end = ap (λ (m : ℕ). end_of p m (drop (i + 1) gs)) next.0 ∙ sym (end_of-next p c.each.at gs i g within c.index-globals-index.is) ∙ c.each.invariant.end;
    }
