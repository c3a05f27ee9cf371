use Rattle.std.proofs.Common.{◌≡◌, drop, map}
use Rattle.std.specs.List.{list_all}
use Rattle.hip_globals.specs.Constants.{joined, item_types}
use Rattle.hip_sound.specs.Places.{fits_test}
use Rattle.hip_typing.proofs.constants.+fit.Given as goal

abbrev pub invariant-item_types_fit-items : goal.invariant-item_types_fit-items
invariant-item_types_fit-items l =
    list_all fits_test (joined (map item_types (drop l.item-index l.items))) ≡ list_all fits_test (joined (map item_types l.items))
