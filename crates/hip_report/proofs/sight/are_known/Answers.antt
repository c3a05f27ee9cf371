use Rattle.std.proofs.Common.{[], Option, ◌∙◌, refl, subst, sym}
use Rattle.hip_runs.specs.Found.Marks.{mark_of}
use Rattle.hip_runs.specs.Seen.{state_of}
use Rattle.hip_runs.specs.declared.event.Object.{Object}
use Rattle.hip_ledger.specs.Sights.{AddAlike}
use Rattle.hip_report.proofs.Sighted.{all_marked, one_marked}
use Rattle.hip_report.proofs.sight.are_known.Goals as goal

pub operands-init : goal.operands-init
operands-init c = refl

pub operands-preserved : goal.operands-preserved
operands-preserved c =
    let m = c.args.machine.now in
    let before = c.args.ledger.now.marks.keys in
    one_marked m.program m.input (state_of m) c.args.site before [] [] c.operands.operand c.in-Some.addr (sym c.pointer.ensures ∙ c.in-Some.is) c.operands.invariant
    (subst (λ (o : Option Object). AddAlike before [] (mark_of c.args.site c.operands.operand o)) c.object_at.ensures (c.is_known.ensures c.if-not-is_known.false))

pub returns-in-None : goal.returns-in-None
returns-in-None c true =
    let m = c.args.machine.now in
    all_marked m.program m.input (state_of m) c.args.site c.args.ledger.now.marks.keys [] c.operands.operand c.requires.site (sym c.pointer.ensures ∙ c.in-None.is) c.operands.invariant
