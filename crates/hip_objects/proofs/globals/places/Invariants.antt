use Rattle.hip_objects.proofs.Places.{IsPlaced}
use Rattle.hip_objects.proofs.globals.places.Given as goal

abbrev pub invariant-globals : goal.invariant-globals
invariant-globals l = IsPlaced l.persistent l.start l.globals l.number l.at l.places.items
