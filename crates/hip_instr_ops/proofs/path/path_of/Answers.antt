use Rattle.std.proofs.Common.{arith, refl}
use Rattle.hip_instr_ops.proofs.Indices.{reaches_first, reaches_on, rest_is, first_agrees, goes_on, goes_somewhere, leads_whole}
use Rattle.hip_instr_ops.proofs.path.path_of.Goals as goal

pub inner-init : goal.inner-init
inner-init c =
    let first = first_agrees c.args.indices.now c.args.ty.now c.requires.agrees in
    record {
      some = omega arith;
      fits = c.requires.fits;
      enters = first.1;
      reaches = reaches_first _ _ _ _ _ _ _ c.index-indices-0.is first.0 c.small_size.ensures refl c.new.ensures c.in_ok-step_over.ensures;
    }

pub enter-requires-clause-fits : goal.enter-requires-clause-fits
enter-requires-clause-fits c = c.inner.invariant.fits

pub enter-requires-clause-entered : goal.enter-requires-clause-entered
enter-requires-clause-entered c =
    goes_somewhere c.args.indices.now c.inner.number c.index-indices-number.result _ (rest_is c.args.indices.now c.inner.number _ c.inner-test.true c.index-indices-number.is) c.inner.invariant.enters

pub inner-preserved : goal.inner-preserved
inner-preserved c =
    let rest = rest_is c.args.indices.now c.inner.number c.index-indices-number.result c.inner-test.true c.index-indices-number.is in
    record {
      some = omega arith;
      fits = c.in_ok-part.ensures.fits;
      enters = goes_on c.args.indices.now c.inner.number c.index-indices-number.result _ _ rest c.inner.invariant.enters c.in_ok-part.ensures.part;
      reaches = reaches_on _ _ _ _ _ _ _ _ _ rest c.inner.invariant.reaches c.in_ok-part.ensures.enters;
    }

pub returns : goal.returns
returns c = leads_whole _ _ c.args.indices.now c.inner.number _ _ c.inner-test.false c.inner.invariant.reaches
