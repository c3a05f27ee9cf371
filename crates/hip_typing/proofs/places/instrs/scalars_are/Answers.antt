use Rattle.std.proofs.Common.{◌≡◌, length, map, sym, ◌∙◌, arith}
use Rattle.std.proofs.lemmas.Grind.{common_steps}
use Rattle.std.proofs.lemmas.List.{length-map}
use Rattle.hip_sound.specs.Types.{same_scalar}
use Rattle.hip_typing.proofs.ShapeLemmas.{all_pass-lengths}
use Rattle.hip_typing.proofs.places.instrs.scalars_are.Goals as goal

pub returns-then-types-args : goal.returns-then-types-args
returns-then-types-args c =
    sym (all_pass-lengths same_scalar c.args.types.now (map (λ a. a.ty) c.args.args.now)
    (λ e. let same : length c.args.types.now ≡ length c.args.args.now = e ∙ length-map c.args.args.now (λ a. a.ty) in grind (arith, common_steps, c.if-types-args.true, same)))
