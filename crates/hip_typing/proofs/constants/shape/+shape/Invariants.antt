use Rattle.std.proofs.Common.{◌≡◌, drop, map}
use Rattle.hip_sound.specs.Constants.{item_has_shape, all_have}
use Rattle.hip_sound.specs.Types.{all_pass}
use Rattle.hip_typing.proofs.constants.shape.+shape.Given as goal

abbrev pub invariant-items_have-items : goal.invariant-items_have-items
invariant-items_have-items l = all_have (map item_has_shape (drop l.item-index l.items)) l.ty ≡ all_have (map item_has_shape l.items) l.ty

abbrev pub invariant-items_match-items : goal.invariant-items_match-items
invariant-items_match-items l = all_pass (map item_has_shape (drop l.at l.items)) (drop l.at l.types) ≡ all_pass (map item_has_shape l.items) l.types
