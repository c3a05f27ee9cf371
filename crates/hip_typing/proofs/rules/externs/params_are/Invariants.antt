use Rattle.std.proofs.Common.{◌≡◌, drop, map}
use Rattle.hip_sound.specs.Types.{all_pass, same_scalar}
use Rattle.hip_typing.proofs.rules.externs.params_are.Given as goal

abbrev pub invariant-params : goal.invariant-params
invariant-params l = all_pass (map same_scalar (drop l.at l.types)) (drop l.at l.params) ≡ all_pass (map same_scalar l.types) l.params
