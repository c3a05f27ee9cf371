use Rattle.std.proofs.Common.{sym, arith}
use Rattle.std.proofs.lemmas.Grind.{common_steps}
use Rattle.hip_sound.specs.Types.{same_scalar}
use Rattle.hip_typing.proofs.ShapeLemmas.{all_pass-lengths}
use Rattle.hip_typing.proofs.rules.externs.params_are.Goals as goal

pub returns-then-params-types : goal.returns-then-params-types
returns-then-params-types c =
    sym (all_pass-lengths same_scalar c.args.types.now c.args.params.now (λ e. grind (arith, common_steps, c.if-params-types.true, e)))
