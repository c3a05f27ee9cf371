use Rattle.std.proofs.Common.{◌∙◌}
use Rattle.std.specs.Str.{bytes_eq}
use Rattle.hip_names.specs.Laws.MetLaws.{met-next}
use Rattle.hip_fix.specs.DirectWalk.{body_allocas}
use Rattle.hip_fix.proofs.direct.alloca_names.Goals as goal

pub each-preserved : goal.each-preserved
each-preserved c =
    rw (c.in_ok-add_body_allocas.ensures, c.as_slice.ensures)
    (met-next bytes_eq (λ b. body_allocas b.body) c.each.names c.args.blocks.now c.each.block-index c.block-item.result c.each-test.true c.block-item.is
    ∙ c.each.invariant)
