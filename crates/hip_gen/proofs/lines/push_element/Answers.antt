use Rattle.hip_gen.specs.Appends.{and_on, and_then, on_ok}
use Rattle.hip_gen.proofs.lines.push_element.Goals as goal

pub returns : goal.returns
returns c =
    on_ok c.push-3.result c.push-3.ensures (λ last. and_on c.in_ok-push_with_number.ensures
    (and_then c.in_ok-push.ensures (and_then c.in_ok-push-2.ensures (and_on c.in_ok-push_with_number-2.ensures last))))
