use Rattle.hip_gen.specs.Appends.{and_on, on_ok}
use Rattle.hip_gen.proofs.texts.push_first_lines.Goals as goal

pub returns : goal.returns
returns c =
    on_ok c.push.result c.push.ensures (λ last. and_on c.in_ok-push_with_number.ensures last)
