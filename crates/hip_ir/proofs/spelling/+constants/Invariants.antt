use Rattle.std.proofs.Common.{◌≡◌, ◌+◌, ◌*◌, drop}
use Rattle.std.specs.List.{list_all}
use Rattle.hip_grammar.specs.Spelling.{spelled_item, spelled_const_within}
use Rattle.hip_ir.proofs.spelling.+constants.Given as goal

abbrev pub invariant-spelled_items_within-items : goal.invariant-spelled_items_within-items
invariant-spelled_items_within-items l = list_all (spelled_item (spelled_const_within l.depth)) (drop l.item-index l.items) ≡ list_all (spelled_item (spelled_const_within l.depth)) l.items

abbrev pub decreases-spelled_const_within : goal.decreases-spelled_const_within
decreases-spelled_const_within l = 3 * l.depth

abbrev pub decreases-spelled_item : goal.decreases-spelled_item
decreases-spelled_item l = 3 * l.depth + 1

abbrev pub decreases-spelled_items_within : goal.decreases-spelled_items_within
decreases-spelled_items_within l = 3 * l.depth + 2
