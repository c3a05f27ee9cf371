use Rattle.hip_gen.specs.Appends.{both, on_ok}
use Rattle.hip_gen.proofs.lines.push_with_number.Goals as goal

pub returns : goal.returns
returns c =
    on_ok c.push_number.result c.push_number.ensures (λ last. both c.in_ok-push.ensures last)
