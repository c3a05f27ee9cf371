use Rattle.std.proofs.Common.{sym, ◌∙◌}
use Rattle.std.proofs.lemmas.Result.{err_from_is_err_and}
use Rattle.hip_run_traces.specs.Traces.{entry_of_ending}
use Rattle.hip_lockstep.proofs.Meets.{differs, end_missing, followed}
use Rattle.hip_lockstep.proofs.StepEntries.{ending_is}
use Rattle.hip_lockstep.proofs.steps.Lockstep.meet_ending.Goals as goal

pub returns-then-not-is-clause-meets : goal.returns-then-not-is-clause-meets
returns-then-not-is-clause-meets g c = λ e q P I start n is here.
    differs P I start n is here (entry_of_ending c.args.ending) (ending_is e c.args.ending q) (λ p. let t = c.is.ensures.1 (c.entry_of_ending.ensures ∙ p) in let f = c.if-not-is.true in let z : ⊥ = cc in z)

pub returns-clause-meets : goal.returns-clause-meets
returns-clause-meets g c = λ e q P I start n is here.
    followed P I start n is here (entry_of_ending c.args.ending) (ending_is e c.args.ending q) (sym c.entry_of_ending.ensures ∙ c.is.ensures.0 c.if-not-is.false) c.requires.room
    c.read_end.new.reader (g.C.Cabinet.state c.read_end.new.cabinet) c.args.ending q c.in_ok-read_end.ensures.read

pub returns-in_err-read_end-clause-meets : goal.returns-in_err-read_end-clause-meets
returns-in_err-read_end-clause-meets g c = λ e q P I start n is here.
    let p = err_from_is_err_and c.from_residual.result c.from_residual.ensures.1 in
    rw (p.1, p.2)
    (end_missing P I start n is here (entry_of_ending c.args.ending) (ending_is e c.args.ending q) (sym c.entry_of_ending.ensures ∙ c.is.ensures.0 c.if-not-is.false) c.requires.room
    c.read_end.new.reader (g.C.Cabinet.state c.read_end.new.cabinet) c.in_err-read_end.field-0.0 c.args.ending q c.in_err-read_end.ensures.read)
