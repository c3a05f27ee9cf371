use Rattle.std.proofs.Common.{rules, sym, ◌∙◌}
use Rattle.hip_types.specs.Layout.{size_of}
use Rattle.hip_globals.specs.AddressesSeen.{address_beside}
use Rattle.hip_globals.specs.Constants.{item_types}
use Rattle.hip_globals.specs.InitialSeen.{AllFit, item_piece}
use Rattle.hip_globals.specs.Values.{written}
use Rattle.hip_globals.proofs.ByteLists.{item_fits, fields_more, items_more, sized_after}
use Rattle.hip_tree.specs.declared.constant.Const as constants
use Rattle.hip_globals.proofs.ConstantParts.{item_type_fits, item_value_fits, item_bytes, item_align}
use Rattle.hip_globals.proofs.initial.+bytes.Goals as goal

pub push_item-push_constant-requires : goal.push_item-push_constant-requires
push_item-push_constant-requires t c = (search (rules, constants.the_lemmas), item_value_fits c.args.item.now c.requires)

pub push_item-size-requires : goal.push_item-size-requires
push_item-size-requires t c = item_type_fits c.args.item.now c.requires

pub push_item-returns : goal.push_item-returns
push_item-returns t c =
    let a = address_beside c.args.addresses.now in
    let item = c.args.item.now in
    rw (item_bytes a item, ← sized_after c.args.bytes.now (written a item.value).bytes c.push_constant.new.bytes c.len-start.result c.size.result (size_of item.ty) c.in_ok-push_constant.ensures c.len-start.ensures c.size.ensures) c.set_size.ensures

pub push_items-push_item-requires : goal.push_items-push_item-requires
push_items-push_item-requires t c =
    let all : AllFit (item_types c.item-item.result) = rw (sym c.item-item.is) at (item_fits item_types c.args.items.now c.items.item-index c.item-item.result c.requires c.items-test.true) in
    (search (rules, constants.the_lemmas), all)

pub push_items-items-preserved : goal.push_items-items-preserved
push_items-items-preserved t c =
    items_more (item_piece (address_beside c.args.addresses.now)) c.args.bytes.now c.args.items.now c.items.item-index c.item-item.result c.items.bytes c.push_item.new.bytes c.items-test.true c.item-item.is c.items.invariant c.in_ok-push_item.ensures

pub push_fields-align-requires : goal.push_fields-align-requires
push_fields-align-requires t c =
    let all : AllFit (item_types c.item-item.result) = rw (sym c.item-item.is) at (item_fits item_types c.args.items.now c.fields.item-index c.item-item.result c.requires c.fields-test.true) in
    item_type_fits c.item-item.result all

pub push_fields-push_item-requires : goal.push_fields-push_item-requires
push_fields-push_item-requires t c =
    let all : AllFit (item_types c.item-item.result) = rw (sym c.item-item.is) at (item_fits item_types c.args.items.now c.fields.item-index c.item-item.result c.requires c.fields-test.true) in
    (search (rules, constants.the_lemmas), all)

pub push_fields-fields-preserved : goal.push_fields-fields-preserved
push_fields-fields-preserved t c =
    let a = address_beside c.args.addresses.now in
    fields_more (item_piece a) c.args.bytes.now c.args.items.now c.fields.item-index c.item-item.result c.fields.bytes c.set_align.new.bytes c.push_item.new.bytes c.len-start.result c.align.result
    c.fields-test.true c.item-item.is c.len-start.ensures (c.align.ensures ∙ sym (item_align a c.item-item.result)) c.fields.invariant c.in_ok-set_align.ensures c.in_ok-push_item.ensures
