use Rattle.std.proofs.Common.{◌≡◌, ◌+◌, ◌<◌, ◌^◌, ℕ, drop, ap, sym, ◌∙◌, arith}
use Rattle.hip_globals.specs.Addresses.{end_of}
use Rattle.hip_globals.proofs.AddressLemmas.{end_of-past, end_of-next, next_at, counted-next, skipped-next}
use Rattle.hip_globals.proofs.addresses.end_of.Goals as goal
use Rattle.hip_globals.proofs.addresses.end_of.Goals.{then-global-persistent+in-Some, else-global-persistent}

pub returns-in-None : goal.returns-in-None
returns-in-None c = λ h.
    let past = end_of-past c.args.persistent c.globals.at c.args.globals.now c.globals.global-index c.global-item.result c.globals-test.true c.global-item.is c.if-global-persistent.true in
    c.in-None.ensures (omega (arith, past, c.globals.invariant.end, h))

pub globals-preserved : goal.globals-preserved
globals-preserved c =
    let p = c.args.persistent in
    let gs = c.args.globals.now in
    let i = c.globals.global-index in
    let g = c.global-item.result in
    let at = c.if-global-persistent.at in
    let next : (at ≡ next_at p c.globals.at g) × (at < 2 ^ 64) = elim c.if-global-persistent.branch [
      | then-global-persistent+in-Some w ↦
          let ends : at ≡ next_at p c.globals.at g = w.at-is ∙ w.in-Some.ensures.1 ∙ sym (counted-next p c.globals.at g w.if-global-persistent.true) in
          (ends, rw w.at-is (omega (arith, w.in-Some.ensures.0, w.in-Some.ensures.1)))
      | else-global-persistent w ↦ (w.at-is ∙ sym (skipped-next p c.globals.at g w.if-global-persistent.false), rw w.at-is c.globals.invariant.fits)
    ] in
    record {
      fits = next.1;
      end = ap (λ (m : ℕ). end_of p m (drop (i + 1) gs)) next.0 ∙ sym (end_of-next p c.globals.at gs i g c.globals-test.true c.global-item.is) ∙ c.globals.invariant.end;
    }
