use Rattle.std.proofs.Common.{◌<◌, ◌/◌, subst, arith}
use Rattle.std.proofs.lemmas.Result.{err_from_is_err_and}
use Rattle.hip_lockstep.proofs.Headers.{image_failed, image_few, image_more}
use Rattle.hip_lockstep.proofs.header.put_image.Goals as goal

pub overflow_add-count : goal.overflow_add-count
overflow_add-count g c =
    let few = image_few c.lines.invariant (subst (λ n. c.lines.line < n / 64) c.len.ensures c.lines-test.true) c.line.result c.line.ensures c.in_ok-count.field-0 c.in_ok-count.ensures.count in
    omega (arith, few, c.requires)

pub returns-in_err-count-clause-wrote : goal.returns-in_err-count-clause-wrote
returns-in_err-count-clause-wrote g c =
    let p = err_from_is_err_and c.from_residual.result c.from_residual.ensures.1 in
    rw p.1
    (image_failed c.lines.invariant (subst (λ n. c.lines.line < n / 64) c.len.ensures c.lines-test.true) c.line.result c.line.ensures (g.S.Sink.state c.put_line.new.out) c.in_err-count.ensures.wrote)

pub lines-preserved : goal.lines-preserved
lines-preserved g c =
    image_more c.lines.invariant (subst (λ n. c.lines.line < n / 64) c.len.ensures c.lines-test.true) c.line.result c.line.ensures (g.S.Sink.state c.put_line.new.out) c.in_ok-count.field-0 c.in_ok-count.ensures.wrote c.in_ok-count.ensures.count
