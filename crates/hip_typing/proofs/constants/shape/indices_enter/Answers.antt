use Rattle.std.proofs.Common.{◌-◌, Some, None, drop, length, take, sym, ◌∙◌}
use Rattle.std.proofs.lemmas.List.{at_drop_all}
use Rattle.hip_sound.specs.Constants.{enters}
use Rattle.hip_typing.proofs.ShapeLemmas.{enters_rest, enters_next}
use Rattle.hip_typing.proofs.constants.shape.indices_enter.Goals as goal

pub indices-init : goal.indices-init
indices-init c = enters_rest c.args.indices.now c.args.ty.now (sym c.is_empty.ensures ∙ c.if-is_empty.false)

pub indices-preserved : goal.indices-preserved
indices-preserved c =
    let rest = take (length c.args.indices.now - 1) (drop 1 c.args.indices.now) in
    sym (enters_next rest c.indices.index_bits-index c.index_bits-item.result c.indices.ty.now c.index.result (Some c.in-Some.inner.now) c.indices-test.true c.index_bits-item.is c.index.ensures c.in-Some.ensures) ∙ c.indices.invariant

pub returns-in-None : goal.returns-in-None
returns-in-None c =
    let rest = take (length c.args.indices.now - 1) (drop 1 c.args.indices.now) in
    sym (enters_next rest c.indices.index_bits-index c.index_bits-item.result c.indices.ty.now c.index.result None c.indices-test.true c.index_bits-item.is c.index.ensures c.in-None.ensures) ∙ c.indices.invariant

pub returns : goal.returns
returns c =
    let rest = take (length c.args.indices.now - 1) (drop 1 c.args.indices.now) in
    sym (at_drop_all (λ is. enters is c.indices.ty.now) rest c.indices.index_bits-index c.indices-test.false) ∙ c.indices.invariant
