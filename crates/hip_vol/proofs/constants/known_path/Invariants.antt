use Rattle.std.proofs.Common.{◌≡◌, ◌++◌, drop}
use Rattle.std.specs.Prelude.{option_map}
use Rattle.hip_invariants.specs.PointerLevels.{known_path}
use Rattle.hip_vol.proofs.constants.known_path.Given as goal

abbrev pub invariant-each : goal.invariant-each
invariant-each l = option_map (λ rest. l.path ++ rest) (known_path (drop l.arg-index l.indices)) ≡ known_path l.indices
