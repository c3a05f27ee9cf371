use Rattle.std.proofs.Common.{◌≡◌, drop, map}
use Rattle.std.specs.List.{list_all}
use Rattle.hip_globals.specs.Constants.{joined}
use Rattle.hip_sound.specs.Constants.{item_names}
use Rattle.hip_names.specs.Names.{is_among}
use Rattle.hip_typing.proofs.constants.+known.Given as goal

abbrev pub invariant-item_names_known-items : goal.invariant-item_names_known-items
invariant-item_names_known-items l =
    list_all (is_among l.known) (joined (map item_names (drop l.item-index l.items))) ≡ list_all (is_among l.known) (joined (map item_names l.items))
