use Rattle.std.proofs.Common.{◌<◌, length, sym, ◌∙◌, arith}
use Rattle.std.proofs.lemmas.Grind.{common_steps}
use Rattle.hip_sound.specs.Constants.{item_has_shape}
use Rattle.hip_typing.proofs.ListTests.{have_next, item_decides, pass_next, rest_decides}
use Rattle.hip_typing.proofs.ShapeLemmas.{all_pass-lengths}
use Rattle.hip_typing.proofs.constants.shape.+shape.Goals as goal

pub items_match-returns-then-items-types : goal.items_match-returns-then-items-types
items_match-returns-then-items-types t c =
    sym (all_pass-lengths item_has_shape c.args.items.now c.args.types.now (λ e. grind (arith, common_steps, c.if-items-types.true, e)))

pub items_have-items-preserved : goal.items_have-items-preserved
items_have-items-preserved t c =
    rest_decides _ _ _ _ (have_next item_has_shape c.args.items.now c.args.ty.now c.items.item-index c.item-item.result c.items-test.true c.item-item.is) c.items.invariant (sym c.item_matches.ensures ∙ c.if-not-item_matches.false)

pub items_have-returns-then-not-item_matches : goal.items_have-returns-then-not-item_matches
items_have-returns-then-not-item_matches t c =
    item_decides _ _ _ _ (have_next item_has_shape c.args.items.now c.args.ty.now c.items.item-index c.item-item.result c.items-test.true c.item-item.is) c.items.invariant (sym c.item_matches.ensures ∙ c.if-not-item_matches.true)

pub items_match-items-preserved : goal.items_match-items-preserved
items_match-items-preserved t c =
    let low : c.items.at < length c.args.types.now = omega arith in
    rest_decides _ _ _ _ (pass_next item_has_shape c.args.items.now c.args.types.now c.items.at c.index-items-at.result c.index-types-at.result c.items-test.true low c.index-items-at.is c.index-types-at.is) c.items.invariant (sym c.item_matches.ensures ∙ c.if-not-item_matches.false)

pub items_match-returns-then-not-item_matches : goal.items_match-returns-then-not-item_matches
items_match-returns-then-not-item_matches t c =
    let low : c.items.at < length c.args.types.now = omega arith in
    item_decides _ _ _ _ (pass_next item_has_shape c.args.items.now c.args.types.now c.items.at c.index-items-at.result c.index-types-at.result c.items-test.true low c.index-items-at.is c.index-types-at.is) c.items.invariant (sym c.item_matches.ensures ∙ c.if-not-item_matches.true)
