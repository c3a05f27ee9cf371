use Rattle.std.proofs.Common.{pos, w64, ◌∙◌, subst}
use Rattle.std.proofs.lemmas.Int.{to_z-of_z}
use Rattle.std.proofs.lemmas.Result.{err_from_is_err_and}
use Rattle.hip_io.specs.Sinks.{AppendsAll, AppendsPrefix}
use Rattle.hip_trace.specs.Texts.{line_of}
use Rattle.hip_trace.specs.declared.entry.Entry.TheVariants as entries
use Rattle.hip_lockstep.proofs.Headers.{number_more, numbers_failed}
use Rattle.hip_lockstep.proofs.header.put_numbers.Goals as goal

pub returns-in_err-put_number : goal.returns-in_err-put_number
returns-in_err-put_number g c =
    let p = err_from_is_err_and c.from_residual.result c.from_residual.ensures.1 in
    rw p.1
    (numbers_failed c.args.numbers.now c.numbers.place (pos 0) c.numbers-test.true c.numbers.invariant
    (subst (λ z. AppendsPrefix (g.S.Sink.state c.numbers.out) (g.S.Sink.state c.put_number.new.out) (line_of (entries.Input z)))
    (to_z-of_z w64 c.number_at-number.result c.number_at-number.ensures.fits ∙ c.number_at-number.ensures.value) c.in_err-put_number.ensures))

pub numbers-preserved : goal.numbers-preserved
numbers-preserved g c =
    number_more c.args.numbers.now c.numbers.place (pos 0) c.numbers-test.true c.numbers.invariant
    (subst (λ z. AppendsAll (g.S.Sink.state c.numbers.out) (g.S.Sink.state c.put_number.new.out) (line_of (entries.Input z)))
    (to_z-of_z w64 c.number_at-number.result c.number_at-number.ensures.fits ∙ c.number_at-number.ensures.value) c.in_ok-put_number.ensures)
