use Rattle.std.proofs.Common.{sym, subst}
use Rattle.hip_ledger.specs.Noted.{IsLedger}
use Rattle.hip_report.proofs.Plainly.{noted_quietly}
use Rattle.hip_report.proofs.plain_steps.pass_quietly.Goals as goal

pub returns-clause-noted : goal.returns-clause-noted
returns-clause-noted c =
    let m = c.pass_quiet_steps.new.self in
    subst (λ k. IsLedger m.program m.input m.taken (record c.args.ledger.now { steps = k })) (sym c.taken-ledger.ensures)
    (noted_quietly c.args.machine.now m c.pass_quiet_steps.ensures c.args.ledger.now c.requires.unmarked c.requires.tracks.noted)
