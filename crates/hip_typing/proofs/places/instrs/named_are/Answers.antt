use Rattle.std.proofs.Common.{◌≡◌, length, map, sym, ◌∙◌, arith}
use Rattle.std.proofs.lemmas.Grind.{common_steps}
use Rattle.std.proofs.lemmas.List.{length-map}
use Rattle.hip_sound.specs.Types.{same_scalar}
use Rattle.hip_typing.proofs.ShapeLemmas.{all_pass-lengths}
use Rattle.hip_typing.proofs.places.instrs.named_are.Goals as goal

pub returns-then-params-args : goal.returns-then-params-args
returns-then-params-args c =
    sym (all_pass-lengths same_scalar (map (λ p. p.ty) c.args.params.now) (map (λ a. a.ty) c.args.args.now)
    (λ e. let same : length c.args.params.now ≡ length c.args.args.now = sym (length-map c.args.params.now (λ p. p.ty)) ∙ e ∙ length-map c.args.args.now (λ a. a.ty) in grind (arith, common_steps, c.if-params-args.true, same)))
