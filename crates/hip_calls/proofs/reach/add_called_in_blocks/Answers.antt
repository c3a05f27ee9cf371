use Rattle.std.proofs.Common.{nat_eq, ◌∙◌}
use Rattle.std.specs.List.{flat_map}
use Rattle.hip_calls.specs.Reach.{called_by}
use Rattle.hip_names.specs.Laws.MetLaws.{met-next}
use Rattle.hip_calls.proofs.reach.add_called_in_blocks.Goals as goal

pub each-preserved : goal.each-preserved
each-preserved c =
    rw (c.in_ok-add_called_in_body.ensures, c.as_slice.ensures)
    (met-next nat_eq (λ b. flat_map (called_by c.args.functions.now) b.body) c.each.seen.keys c.args.blocks.now c.each.block-index c.block-item.result c.each-test.true c.block-item.is
    ∙ c.each.invariant)
