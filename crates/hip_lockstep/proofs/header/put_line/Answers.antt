use Rattle.std.proofs.Common.{length, sym, ap, ◌∙◌, subst}
use Rattle.std.proofs.lemmas.Result.{err_from_is_err_and}
use Rattle.hip_io.specs.Laws.SinkLaws.{writes_nothing}
use Rattle.hip_io.specs.Sinks.{AppendsAll, AppendsPrefix}
use Rattle.hip_io.specs.declared.sink.Put.TheVariants.{Done}
use Rattle.hip_trace.specs.Texts.{line_of, lines_of}
use Rattle.hip_trace.specs.declared.entry.Entry.TheVariants.{Image}
use Rattle.hip_lockstep.proofs.Headers.{no_image, one_image, one_line, part_line}
use Rattle.hip_lockstep.proofs.header.put_line.Goals as goal

pub returns-then-not-some_byte-clause-wrote : goal.returns-then-not-some_byte-clause-wrote
returns-then-not-some_byte-clause-wrote g c =
    subst (λ es. AppendsAll (g.S.Sink.state c.args.out.now) (g.S.Sink.state c.args.out.now) (lines_of es))
    (sym (no_image c.args.addr c.args.line.now c.requires (sym c.some_byte.ensures ∙ c.if-not-some_byte.true)))
    (writes_nothing Done (g.S.Sink.state c.args.out.now)).how

pub returns-then-not-some_byte-clause-count : goal.returns-then-not-some_byte-clause-count
returns-then-not-some_byte-clause-count g c =
    ap (λ es. length es) (sym (no_image c.args.addr c.args.line.now c.requires (sym c.some_byte.ensures ∙ c.if-not-some_byte.true)))

pub returns-clause-wrote : goal.returns-clause-wrote
returns-clause-wrote g c =
    subst (λ es. AppendsAll (g.S.Sink.state c.args.out.now) (g.S.Sink.state c.write_entry.new.out) (lines_of es))
    (sym (one_image c.args.addr c.args.line.now c.requires (sym c.some_byte.ensures ∙ c.if-not-some_byte.false)))
    (one_line (Image c.args.addr c.args.line.now) (subst (λ bytes. AppendsAll (g.S.Sink.state c.args.out.now) (g.S.Sink.state c.write_entry.new.out) (line_of (Image c.args.addr bytes))) c.copy_from_slice.ensures.after c.in_ok-write_entry.ensures))

pub returns-clause-count : goal.returns-clause-count
returns-clause-count g c =
    ap (λ es. length es) (sym (one_image c.args.addr c.args.line.now c.requires (sym c.some_byte.ensures ∙ c.if-not-some_byte.false)))

pub returns-in_err-write_entry-clause-wrote : goal.returns-in_err-write_entry-clause-wrote
returns-in_err-write_entry-clause-wrote g c =
    let p = err_from_is_err_and c.from_residual.result c.from_residual.ensures.1 in
    rw p.1
    (subst (λ es. AppendsPrefix (g.S.Sink.state c.args.out.now) (g.S.Sink.state c.write_entry.new.out) (lines_of es))
    (sym (one_image c.args.addr c.args.line.now c.requires (sym c.some_byte.ensures ∙ c.if-not-some_byte.false)))
    (part_line (Image c.args.addr c.args.line.now) (subst (λ bytes. AppendsPrefix (g.S.Sink.state c.args.out.now) (g.S.Sink.state c.write_entry.new.out) (line_of (Image c.args.addr bytes))) c.copy_from_slice.ensures.after c.in_err-write_entry.ensures)))
