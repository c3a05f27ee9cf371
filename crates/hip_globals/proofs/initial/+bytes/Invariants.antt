use Rattle.std.proofs.Common.{◌≡◌, ◌++◌, [], map, take}
use Rattle.hip_globals.specs.AddressesSeen.{address_beside}
use Rattle.hip_globals.specs.Constants.{joined}
use Rattle.hip_globals.specs.InitialSeen.{item_piece}
use Rattle.hip_globals.specs.Values.{placed}
use Rattle.hip_globals.proofs.initial.+bytes.Given as goal

abbrev pub invariant-push_fields-fields : goal.invariant-push_fields-fields
invariant-push_fields-fields l = l.bytes ≡ l.initial.bytes ++ placed [] (map (item_piece (address_beside l.addresses)) (take l.item-index l.items))

abbrev pub invariant-push_items-items : goal.invariant-push_items-items
invariant-push_items-items l = l.bytes ≡ l.initial.bytes ++ joined (map (λ p. p.bytes) (map (item_piece (address_beside l.addresses)) (take l.item-index l.items)))
