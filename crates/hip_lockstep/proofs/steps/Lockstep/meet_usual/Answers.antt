use Rattle.std.proofs.lemmas.Result.{err_from_is_err_and}
use Rattle.hip_lockstep.proofs.Meets.{differs, next_in_step, next_missing}
use Rattle.hip_trace.specs.Usuals.{usual_entry}
use Rattle.hip_lockstep.proofs.StepEntries.{usual_goes, usual_is}
use Rattle.hip_lockstep.proofs.steps.Lockstep.meet_usual.Goals as goal

pub returns-then-not-is_usual-clause-meets : goal.returns-then-not-is_usual-clause-meets
returns-then-not-is_usual-clause-meets g c = λ e q P I start n is here.
    differs P I start n is here (usual_entry c.args.made) (usual_is e c.args.made q) (λ p. let t = c.is_usual.ensures.1 p in let f = c.if-not-is_usual.true in let z : ⊥ = cc in z)

pub returns-clause-meets : goal.returns-clause-meets
returns-clause-meets g c = λ e q P I start n is here.
    next_in_step P I start n is here (usual_entry c.args.made) (usual_is e c.args.made q) (c.is_usual.ensures.0 c.if-not-is_usual.false) c.requires.room
    c.read_next.new.reader (g.C.Cabinet.state c.read_next.new.cabinet) c.read_next.new.next (usual_goes e c.args.made q) c.in_ok-read_next.ensures.read

pub returns-in_err-read_next-clause-meets : goal.returns-in_err-read_next-clause-meets
returns-in_err-read_next-clause-meets g c = λ e q P I start n is here.
    let p = err_from_is_err_and c.from_residual.result c.from_residual.ensures.1 in
    rw (p.1, p.2)
    (next_missing P I start n is here (usual_entry c.args.made) (usual_is e c.args.made q) (c.is_usual.ensures.0 c.if-not-is_usual.false) c.requires.room
    c.read_next.new.reader (g.C.Cabinet.state c.read_next.new.cabinet) c.in_err-read_next.field-0.0 (usual_goes e c.args.made q) c.in_err-read_next.ensures.read)
