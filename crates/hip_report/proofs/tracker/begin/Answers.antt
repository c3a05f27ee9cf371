use Rattle.std.proofs.Common.{sym, subst, Option}
use Rattle.hip_ledger.specs.Noted.{IsLedger}
use Rattle.hip_report.specs.TrackerView.{NotesOf, notes_all, seen_in}
use Rattle.hip_report.specs.declared.tracker.NotedRun.{NotedRun}
use Rattle.hip_report.proofs.tracker.begin.Goals as goal

pub returns-in-None-clause-noted : goal.returns-in-None-clause-noted
returns-in-None-clause-noted c =
    let m = c.args.machine.now in
    let blank = subst (λ (o : Option NotedRun). NotesOf o c.args.ledger.now) c.in-None.is c.requires.ledger in
    let none = subst (λ (o : Option NotedRun). notes_all (seen_in o c.args.ledger.now.steps) m) c.in-None.is c.requires.all in
    subst (λ k. IsLedger m.program m.input k c.args.ledger.now) (sym none) (blank m.program m.input)
