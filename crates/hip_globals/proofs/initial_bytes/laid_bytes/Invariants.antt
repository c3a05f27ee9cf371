use Rattle.std.proofs.Common.{◌≡◌, [], drop}
use Rattle.hip_globals.specs.AddressesSeen.{address_beside}
use Rattle.hip_globals.specs.Initial.{laid_bytes}
use Rattle.hip_globals.proofs.initial_bytes.laid_bytes.Given as goal

abbrev pub invariant-globals : goal.invariant-globals
invariant-globals l =
    laid_bytes (address_beside l.addresses) l.persistent l.start l.bytes (drop l.index l.globals) ≡ laid_bytes (address_beside l.addresses) l.persistent l.start [] l.globals
