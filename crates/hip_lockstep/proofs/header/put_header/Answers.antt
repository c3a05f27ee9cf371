use Rattle.std.proofs.Common.{◌+◌, ap, ◌∙◌, subst}
use Rattle.std.proofs.lemmas.Result.{err_from_is_err_and}
use Rattle.hip_io.specs.Sinks.{AppendsAll, AppendsPrefix}
use Rattle.hip_trace.specs.Texts.{lines_of}
use Rattle.hip_lockstep.proofs.Headers.{header_count, header_written, images_failed, inputs, inputs_failed, start_failed}
use Rattle.hip_lockstep.proofs.header.put_header.Goals as goal

pub returns-in_err-put_start-clause-wrote : goal.returns-in_err-put_start-clause-wrote
returns-in_err-put_start-clause-wrote g c =
    let p = err_from_is_err_and c.from_residual.result c.from_residual.ensures.1 in
    rw p.1 (start_failed c.args.input.now (g.S.Sink.state c.put_start.new.out) c.in_err-put_start.ensures)

pub returns-in_err-put_numbers-clause-wrote : goal.returns-in_err-put_numbers-clause-wrote
returns-in_err-put_numbers-clause-wrote g c =
    let p = err_from_is_err_and c.from_residual-in_err-put_numbers.result c.from_residual-in_err-put_numbers.ensures.1 in
    rw p.1
    (inputs_failed c.args.input.now (g.S.Sink.state c.put_start.new.out) (g.S.Sink.state c.put_numbers.new.out) c.in_ok-put_start.ensures
    (subst (λ zs. AppendsPrefix (g.S.Sink.state c.put_start.new.out) (g.S.Sink.state c.put_numbers.new.out) (lines_of (inputs zs))) c.as_slice.ensures c.in_err-put_numbers.ensures))

pub returns-clause-wrote : goal.returns-clause-wrote
returns-clause-wrote g c =
    header_written c.args.input.now (g.S.Sink.state c.put_start.new.out) (g.S.Sink.state c.put_numbers.new.out) (g.S.Sink.state c.put_image.new.out) c.in_ok-put_start.ensures
    (subst (λ zs. AppendsAll (g.S.Sink.state c.put_start.new.out) (g.S.Sink.state c.put_numbers.new.out) (lines_of (inputs zs))) c.as_slice.ensures c.in_ok-put_numbers.ensures)
    c.in_ok-lines.ensures.wrote

pub returns-clause-count : goal.returns-clause-count
returns-clause-count g c =
    ap (λ n. 2 + n + c.from.result) c.len.ensures
    ∙ header_count c.args.input.now c.from.result (c.from.ensures ∙ c.in_ok-lines.ensures.count)

pub returns-in_err-lines-clause-wrote : goal.returns-in_err-lines-clause-wrote
returns-in_err-lines-clause-wrote g c =
    let p = err_from_is_err_and c.from_residual-in_err-lines.result c.from_residual-in_err-lines.ensures.1 in
    rw p.1
    (images_failed c.args.input.now (g.S.Sink.state c.put_start.new.out) (g.S.Sink.state c.put_numbers.new.out) (g.S.Sink.state c.put_image.new.out) c.in_ok-put_start.ensures
    (subst (λ zs. AppendsAll (g.S.Sink.state c.put_start.new.out) (g.S.Sink.state c.put_numbers.new.out) (lines_of (inputs zs))) c.as_slice.ensures c.in_ok-put_numbers.ensures)
    c.in_err-lines.ensures.wrote)
