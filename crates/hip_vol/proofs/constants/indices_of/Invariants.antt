use Rattle.std.proofs.Common.{◌≡◌, map, take}
use Rattle.hip_globals.specs.Constants.{index_of}
use Rattle.hip_vol.proofs.constants.indices_of.Given as goal

abbrev pub invariant-each : goal.invariant-each
invariant-each l = l.path ≡ map index_of (take l.bits-index l.indices)
