use Rattle.std.proofs.Common.{sym, ◌∙◌}
use Rattle.hip_globals.specs.Constants.{item_types}
use Rattle.hip_sound.specs.Places.{fits_test}
use Rattle.hip_typing.proofs.ListTests.{item_decides, joined_next, rest_decides}
use Rattle.hip_typing.proofs.constants.+fit.Goals as goal

pub item_types_fit-items-preserved : goal.item_types_fit-items-preserved
item_types_fit-items-preserved t c =
    rest_decides _ _ _ _ (joined_next fits_test item_types c.args.items.now c.items.item-index c.item-item.result c.items-test.true c.item-item.is) c.items.invariant (sym c.one_item_fits.ensures ∙ c.if-not-one_item_fits.false)

pub item_types_fit-returns-then-not-one_item_fits : goal.item_types_fit-returns-then-not-one_item_fits
item_types_fit-returns-then-not-one_item_fits t c =
    item_decides _ _ _ _ (joined_next fits_test item_types c.args.items.now c.items.item-index c.item-item.result c.items-test.true c.item-item.is) c.items.invariant (sym c.one_item_fits.ensures ∙ c.if-not-one_item_fits.true)
