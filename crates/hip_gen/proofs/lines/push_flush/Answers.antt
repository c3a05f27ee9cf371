use Rattle.hip_gen.specs.Appends.{and_then, on_ok}
use Rattle.hip_gen.proofs.lines.push_flush.Goals as goal

pub returns : goal.returns
returns c =
    on_ok c.push-2.result c.push-2.ensures (λ last. and_then c.in_ok-push.ensures
    (and_then c.in_ok-push_element.ensures last))
