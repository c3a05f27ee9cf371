use Rattle.std.proofs.Common.{ap₂, refl, ◌∙◌}
use Rattle.std.proofs.lemmas.Result.{IfOk-weaker}
use Rattle.clap.specs.Words.{with_rule}
use Rattle.hip_words.proofs.commands.with_limit_and_numbers.Goals as goal

pub returns : goal.returns
returns c =
    let limited = c.in_ok-arg.ensures.shape c.with_default.ensures.local ∙ ap₂ with_rule refl c.with_default.ensures.rule in
    IfOk-weaker c.arg-2.result _ _ (λ _ adds. adds.shape c.any_number.ensures.local ∙ ap₂ with_rule limited c.any_number.ensures.rule) c.arg-2.ensures
