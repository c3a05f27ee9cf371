use Rattle.std.proofs.lemmas.Result.{err_from_is_err_and}
use Rattle.hip_replay.proofs.Followed.{replayed_by}
use Rattle.hip_replay.proofs.compared.replay.Goals as goal

pub returns-in_err-findings : goal.returns-in_err-findings
returns-in_err-findings g c =
    let p = err_from_is_err_and c.from_residual-in_err-findings.result c.from_residual-in_err-findings.ensures.1 in
    rw (p.1, p.2) (c.in_err-findings.ensures (g.C.Cabinet.state c.args.cabinet.now) c.in_ok-input.ensures.read)

pub returns : goal.returns
returns g c =
    replayed_by c.args.checked.now (g.C.Cabinet.state c.args.cabinet.now) c.read_header.new.reader c.run_beside.new.reader (g.C.Cabinet.state c.read_header.new.cabinet) (g.C.Cabinet.state c.run_beside.new.cabinet) c.in_ok-input.field-0 c.args.sought c.in_ok-findings.field-0 c.in_ok-input.ensures.read
    (c.in_ok-findings.ensures (g.C.Cabinet.state c.args.cabinet.now) c.in_ok-input.ensures.read)
