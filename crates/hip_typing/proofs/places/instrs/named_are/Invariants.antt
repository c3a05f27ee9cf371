use Rattle.std.proofs.Common.{◌≡◌, drop, map}
use Rattle.hip_sound.specs.Types.{all_pass, same_scalar}
use Rattle.hip_typing.proofs.places.instrs.named_are.Given as goal

abbrev pub invariant-each : goal.invariant-each
invariant-each l =
    all_pass (map same_scalar (map (λ p. p.ty) (drop l.at l.params))) (map (λ a. a.ty) (drop l.at l.args)) ≡ all_pass (map same_scalar (map (λ p. p.ty) l.params)) (map (λ a. a.ty) l.args)
